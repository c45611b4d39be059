-- Ground values, which are read alike in processes and patterns.
use Rattle.std.proofs.Common.{ℕ, suc, ◌≤◌, ◌-◌, ◌^◌, Bool, true, false, List, ◌∷◌, arith}
use Rattle.std.specs.Prelude.{ℤ, pos, negsuc, neg_ℤ, ◌≤ℤ◌, ◌<ℤ◌}
use Rattle.std.proofs.lemmas.Int.{ints}
use Rattle.calculus.specs.Tree.{bool, int, str, uri, bytes}
use Rattle.calculus.specs.Written.{Written}
use Rattle.grammar.specs.Productions.{Prod}
use Rattle.grammar.specs.Rules.{Ground, Atom, PAtom}
use Rattle.grammar.specs.Spells.{of_done, of_sign, of_text, of_integer, of_last}
use Rattle.grammar.specs.Terminals.{text, a_string, a_uri, a_byte_array}
use Rattle.grammar.specs.Values.{Side, processes, patterns, ground_of}
use Rattle.printed_spelling.proofs.Pieces.{Piece, marked, bool_mark, int_piece}
use Rattle.printed_spelling.proofs.Climbing.{Says}

pub ground_bool : (side : Side) (b : Bool) → Says (Ground side) (marked (bool_mark b)) (ground_of side (bool b))
ground_bool side true = record { height = _; reads = λ rest. of_last (Prod.ground_true side) (of_sign of_done) }
ground_bool side false = record { height = _; reads = λ rest. of_last (Prod.ground_false side) (of_sign of_done) }

fits_above : (n : ℕ) → pos n <ℤ pos (2 ^ 63) → n ≤ 2 ^ 63 - 1
fits_above n h = omega (arith, ints, h)

fits_below : (n : ℕ) → neg_ℤ (pos (2 ^ 63)) ≤ℤ negsuc n → suc n ≤ 2 ^ 63
fits_below n h = omega (arith, ints, h)

pub ground_int : (side : Side) (z : ℤ) → (neg_ℤ (pos (2 ^ 63)) ≤ℤ z) × (z <ℤ pos (2 ^ 63)) → Says (Ground side) (int_piece z) (ground_of side (int z))
ground_int side (pos n) h = record { height = _; reads = λ rest. of_last (Prod.ground_int side) (of_integer (fits_above n h.1) of_done) }
ground_int side (negsuc n) h = record { height = _; reads = λ rest. of_last (Prod.ground_minus side) (of_sign (of_integer (fits_below n h.0) of_done)) }

pub ground_str : (side : Side) (x : List ℕ) → Says (Ground side) (λ r. text a_string x ∷ r) (ground_of side (str x))
ground_str side x = record { height = _; reads = λ rest. of_last (Prod.ground_string side) (of_text of_done) }

pub ground_uri : (side : Side) (x : List ℕ) → Says (Ground side) (λ r. text a_uri x ∷ r) (ground_of side (uri x))
ground_uri side x = record { height = _; reads = λ rest. of_last (Prod.ground_uri side) (of_text of_done) }

pub ground_bytes : (side : Side) (x : List ℕ) → Says (Ground side) (λ r. text a_byte_array x ∷ r) (ground_of side (bytes x))
ground_bytes side x = record { height = _; reads = λ rest. of_last (Prod.ground_bytes side) (of_text of_done) }

pub ground_atom : {p : Piece} {w : Written} → Says (Ground processes) p w → Says Atom p w
ground_atom x = record { height = x.height; reads = λ rest. of_last Prod.atom_ground (x.reads rest) }

pub ground_patom : {p : Piece} {w : Written} → Says (Ground patterns) p w → Says PAtom p w
ground_patom x = record { height = x.height; reads = λ rest. of_last Prod.patom_ground (x.reads rest) }
