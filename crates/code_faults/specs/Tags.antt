-- Tags of parts that are no leaves.
use Rattle.std.specs.Prelude.{ℕ, Bool, ◌&&◌, ◌||◌, leb}

-- whether a byte is the tag of a part of a process that is no leaf
abbrev pub is_form_tag : ℕ → Bool
is_form_tag tag = (leb 0x20 tag && leb tag 0x23) || ((leb 0x30 tag && leb tag 0x34) || (leb 0x40 tag && leb tag 0x42))

-- whether a byte is the tag of a part of a pattern that is no leaf
abbrev pub is_pat_form_tag : ℕ → Bool
is_pat_form_tag tag = (leb 0x20 tag && leb tag 0x23) || ((leb 0x30 tag && leb tag 0x34) || (leb 0x53 tag && leb tag 0x56))
