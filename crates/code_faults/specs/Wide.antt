-- Parts of patterns that take all parts that are left, by their tags.
use Rattle.std.specs.Prelude.{ℕ, Bool, ◌&&◌, leb}

-- whether a byte is the tag of such a part
abbrev pub is_wide_tag : ℕ → Bool
is_wide_tag tag = leb 0x50 tag && leb tag 0x56
