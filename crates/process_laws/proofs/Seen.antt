-- What a closed value is seen as.
use Rattle.std.proofs.Common.{ℕ, ◌<◌, ◌^◌, List, [], length, IsUtf8}
use Rattle.std.specs.Prelude.{⊤}
use Rattle.calculus.specs.Tree.{par, bool, int, str, bytes, list, tuple, set, dict, Tree, node, Trees, none, also}
use Rattle.calculus.specs.CodeLaws.{IsShort}
use Rattle.calculus.specs.Form.{term, part, pair_of, Fits, IsBytes, IsClosed}
use Rattle.calculus.specs.Operators.{Seen, a_bool, an_int, a_text, some_bytes, a_list, a_tuple, a_set, a_map, other, seen_part, seen}
use Rattle.process_laws.proofs.Members.{AllFit, held-fit}
use Rattle.process_laws.proofs.ClosedValueLengths.{text-short, bytes-short, members-short, pairs-short, part-short}
use Rattle.process_laws.proofs.Numbers.{InRange}

-- what a value is seen as has data in its ranges, and is closed
abbrev pub SeenFits : Seen → Type 0
SeenFits (a_bool b) = ⊤
SeenFits (an_int z) = InRange z
SeenFits (a_text s) = IsUtf8 s × IsBytes s
SeenFits (some_bytes s) = IsBytes s
SeenFits (a_list ts) = AllFit term ts
SeenFits (a_tuple ts) = AllFit term ts
SeenFits (a_set ts) = AllFit term ts
SeenFits (a_map ps) = AllFit (pair_of term) ps
SeenFits other = ⊤

-- and has fewer members than four bytes count
abbrev pub SeenShort : Seen → Type 0
SeenShort (a_text s) = length s < 2 ^ 32
SeenShort (some_bytes s) = length s < 2 ^ 32
SeenShort (a_list ts) = length ts < 2 ^ 32
SeenShort (a_set ts) = length ts < 2 ^ 32
SeenShort (a_map ps) = length ps < 2 ^ 32
SeenShort _ = ⊤

part-fits : (t : Tree) → Fits part [] t → SeenFits (seen_part t)
part-fits (node (bool b) ts) h = tt
part-fits (node (int z) ts) h = h.0
part-fits (node (str s) ts) h = h.0
part-fits (node (bytes s) ts) h = h.0
part-fits (node list ts) h = held-fit term ts h.1
part-fits (node tuple ts) h = held-fit term ts h.1
part-fits (node set ts) h = held-fit term ts h.1
part-fits (node dict ts) h = held-fit (pair_of term) ts h.1
part-fits (node _ ts) h = tt

-- what has no constituents
no-more-text : (s : List ℕ) (ts : Trees) → Fits part [] (node (str s) ts) → IsShort (node (str s) ts) → length s < 2 ^ 32
no-more-text s none h a = text-short s a
no-more-text s (also t ts) h a = absurd h.1

no-more-bytes : (s : List ℕ) (ts : Trees) → Fits part [] (node (bytes s) ts) → IsShort (node (bytes s) ts) → length s < 2 ^ 32
no-more-bytes s none h a = bytes-short s a
no-more-bytes s (also t ts) h a = absurd h.1

part-is-short : (t : Tree) → Fits part [] t → IsShort t → SeenShort (seen_part t)
part-is-short (node (str s) ts) h a = no-more-text s ts h a
part-is-short (node (bytes s) ts) h a = no-more-bytes s ts h a
part-is-short (node list ts) h a = members-short list ts h.1 a
part-is-short (node set ts) h a = members-short set ts h.1 a
part-is-short (node dict ts) h a = pairs-short dict ts h.1 a
part-is-short (node _ ts) h a = tt

pub seen-fits : (t : Tree) → IsClosed t → SeenFits (seen t)
seen-fits (node par none) h = tt
seen-fits (node par (also t none)) h = part-fits t h.1.0
seen-fits (node par (also t (also u us))) h = tt
seen-fits (node _ ts) h = absurd h.1

pub seen-short : (t : Tree) → IsClosed t → IsShort t → SeenShort (seen t)
seen-short (node par none) h a = tt
seen-short (node par (also t none)) h a = part-is-short t h.1.0 (part-short t a)
seen-short (node par (also t (also u us))) h a = tt
seen-short (node _ ts) h a = absurd h.1
