-- The text of each tree has the terminals of its pieces.
use Rattle.std.proofs.Common.{ℕ, ◌+◌, ◌-◌, max, Bool, true, false, cond, List, [], ◌∷◌, ◌++◌, length, reverse, refl}
use Rattle.std.specs.Prelude.{⊤, drop, codes}
use Rattle.calculus.specs.declared.plain.TermRest.TheVariants as rests
use Rattle.calculus.specs.Tree.{Label, par, bind, rest, fresh, name_var, send, Tree, node, Trees, none, also}
use Rattle.calculus.specs.Shape.{count, held, listed, label_of}
use Rattle.calculus.specs.Variables.{Sense, bound as variables, binders}
use Rattle.calculus.specs.Form.{Sort, term, part, a_bind, a_case, a_rest, pat, name_pat, pat_part, name_part, row_of, pair_of, Kids, all, these, no_form, kids, Scope, outer, IsPlain, Fits, Hold}
use Rattle.calculus.specs.Normal.{placed_by, by_code}
use Rattle.calculus.specs.Printed.{Printed, first_text, is_drop, name_text, parallel_text, in_order_of as texts_in_order, part_text, form_printed, first_number, printed, all_printed}
use Rattle.grammar.specs.declared.mark.Mark.TheVariants as marks
use Rattle.grammar.specs.Terminals.{mark}
use Rattle.printed_spelling.proofs.Pieces.{Piece, first_piece, name_piece, parallel_piece, in_order_of, part_piece, form_pieces, pieces, all_pieces}
use Rattle.printed_spelling.proofs.Both.{Both, both_none, both_also, both_append, both_joined, Beside, beside_none, beside_also, without_trees, InTurn, turned_none, turned_also}
use Rattle.printed_spelling.proofs.Scanning.{Lexed, loose, put, join}
use Rattle.printed_spelling.proofs.Signs.{lex_open, lex_at, lex_case, lex_colons}
use Rattle.printed_spelling.proofs.Words.{lex_any}
use Rattle.printed_spelling.proofs.Numbers.{lex_variable}
use Rattle.printed_spelling.proofs.Hexes.{lex_fresh}
use Rattle.printed_spelling.proofs.Texts.{lex_list, lex_block, lex_operand, lex_name_pattern, lex_parallel, lex_each_hung, lex_first, lex_firsts, lex_ordered, lex_at_place}
use Rattle.printed_spelling.proofs.TextParts.{ChannelLexed, part_lexed}

-- a process of these parts: by itself, and as a name
pub record TermLexed (hs : List Tree) (x : List ℕ) (p : Piece) : Type 0 where
  pub whole : Lexed true x p
  pub name : Lexed true (name_text hs x) (name_piece hs p)

-- a drop without its `*`
abbrev pub DropLexed : Bool → List ℕ → Piece → Type 0
DropLexed true x p = Lexed true (drop 1 x) (λ r. drop 1 (p r))
DropLexed false x p = ⊤

-- a part of a process
pub record PartLexed (l : Label) (x : List ℕ) (p : Piece) : Type 0 where
  pub alone : Lexed true x p
  pub undropped : DropLexed (is_drop l) x p

-- one text and one piece
pub data OneEach (R : List ℕ → Piece → Type 0) : Printed → List Piece → Type 0 where
  one_each : {x : List ℕ} {p : Piece} → R x p → OneEach R (x ∷ []) (p ∷ [])

-- how the texts of a tree of a sort are read
abbrev pub TextClaim : Sort → Tree → Printed → List Piece → Type 0
TextClaim term t = OneEach (TermLexed (held t))
TextClaim part t = OneEach (PartLexed (label_of t))
TextClaim _ t = Both (Lexed true)

abbrev pub KidsLexed : Kids → Trees → List Printed → List (List Piece) → Type 0
KidsLexed (all s) = Beside (TextClaim s)
KidsLexed (these ss) = InTurn TextClaim ss
KidsLexed no_form = λ ts xs ps. ⊥

-- the texts alone
plain : (s : Sort) (t : Tree) (x : Printed) (p : List Piece) → TextClaim s t x p → Both (Lexed true) x p
plain term t x p (one_each m) = both_also m.whole both_none
plain part t x p (one_each m) = both_also m.alone both_none
plain _ t x p m = m

plain_turned : {ss : List Sort} {ts : Trees} {xs : List Printed} {ps : List (List Piece)} → InTurn TextClaim ss ts xs ps → Both (Both (Lexed true)) xs ps
plain_turned turned_none = both_none
plain_turned (turned_also {s} {t} {a} {b} m h) = both_also (plain s t a b m) (plain_turned h)

all_plain : (k : Kids) (ts : Trees) {xs : List Printed} {ps : List (List Piece)} → KidsLexed k ts xs ps → Both (Both (Lexed true)) xs ps
all_plain (all s) ts h = without_trees (plain s) h
all_plain (these ss) ts h = plain_turned h
all_plain no_form ts h = absurd h

-- one part as a name
one_name : (b : Bool) (x y : List ℕ) (p q : Piece) → DropLexed b x p → Lexed true y q → Lexed true (cond b (drop 1 x) (codes "@" ++ y)) (cond b (λ r. drop 1 (p r)) (λ r. mark marks.At ∷ q r))
one_name true x y p q h k = h
one_name false x y p q h k = put lex_at k

-- a process of parts
term_lexed : {ts : Trees} {xs : List Printed} {ps : List (List Piece)} → Beside (TextClaim part) ts xs ps → TermLexed (listed ts) (parallel_text (texts_in_order ts xs)) (parallel_piece (in_order_of ts ps))
unfolding placed_by by_code
term_lexed beside_none = let x = lex_parallel both_none in record { whole = x; name = put lex_at (lex_operand [] x) }
term_lexed (beside_also {t} (one_each m) beside_none) =
    record { whole = m.alone; name = one_name (is_drop (label_of t)) _ _ _ _ m.undropped (lex_operand (t ∷ []) m.alone) }
term_lexed {ts} {xs} {ps} (beside_also {t = t} m (beside_also {t = u} {ts = us} n ms)) =
    let x = lex_parallel (lex_ordered ts (without_trees (plain part) (beside_also {t = t} m (beside_also {t = u} n ms)))) in
    record { whole = x; name = put lex_at (lex_operand (t ∷ u ∷ listed us) x) }

-- a drop of a variable or of a fresh name
part_undropped : (v : Scope) (l : Label) (ts : Trees) (d n : ℕ) (xs : List Printed) (ps : List (List Piece)) → IsPlain part v l ts → DropLexed (is_drop l) (part_text part l ts d n xs) (part_piece part l ts d n ps)
part_undropped v (name_var j) ts d n xs ps i = lex_variable (d - (j + 1))
part_undropped v (fresh x) ts d n xs ps i = loose (lex_fresh x i)
part_undropped v _ ts d n xs ps i = tt

-- the channels of sends in processes and patterns
channel_lexed : (l : Label) (ts : Trees) (xs : List Printed) (ps : List (List Piece)) → KidsLexed (kids part l (count ts)) ts xs ps → ChannelLexed part l ts xs ps
channel_lexed (send q) _ _ _ (turned_also (one_each c) h) = c.name
channel_lexed _ ts xs ps h = tt

pattern_channel_lexed : (l : Label) (ts : Trees) {xs : List Printed} {ps : List (List Piece)} → Both (Both (Lexed true)) xs ps → ChannelLexed pat_part l ts xs ps
pattern_channel_lexed (send q) ts h = lex_first (lex_at_place 0 h)
pattern_channel_lexed _ ts h = tt

name_channel_lexed : (l : Label) (ts : Trees) {xs : List Printed} {ps : List (List Piece)} → Both (Both (Lexed true)) xs ps → ChannelLexed name_part l ts xs ps
name_channel_lexed (send q) ts h = lex_first (lex_at_place 0 h)
name_channel_lexed _ ts h = tt

one_text : {x : List ℕ} {p : Piece} → Lexed true x p → Both (Lexed true) (x ∷ []) (p ∷ [])
one_text h = both_also h both_none

-- a form's texts
form_lexed : (s : Sort) (v : Scope) (l : Label) (ts : Trees) (d n : ℕ) (xs : List Printed) (ps : List (List Piece)) → IsPlain s v l ts → KidsLexed (kids s l (count ts)) ts xs ps
    → TextClaim s (node l ts) (form_printed s l ts d n xs) (form_pieces s l ts d n ps)
form_lexed term v par ts d n xs ps i h = one_each (term_lexed h)
form_lexed term v _ ts d n xs ps i h = absurd h
form_lexed pat v l ts d n xs ps i h = one_text (lex_parallel (lex_firsts (all_plain (kids pat l (count ts)) ts h)))
form_lexed name_pat v l ts d n xs ps i h = one_text (lex_name_pattern (listed ts) (lex_parallel (lex_firsts (all_plain (kids name_pat l (count ts)) ts h))))
form_lexed (row_of s) v l ts d n xs ps i h = both_joined (Lexed true) (all_plain (kids (row_of s) l (count ts)) ts h)
form_lexed (pair_of s) v l ts d n xs ps i h =
    let k = all_plain (kids (pair_of s) l (count ts)) ts h in
    one_text (join (lex_first (lex_at_place 0 k)) refl (put lex_colons (lex_first (lex_at_place 1 k))))
form_lexed a_bind v bind _ d n _ _ i (turned_also (one_each c) (turned_also ms (turned_also q turned_none))) = both_also (lex_list (both_append (Lexed true) ms (lex_each_hung q))) (one_text c.name)
form_lexed a_bind v _ ts d n xs ps i h = absurd h
form_lexed a_case v l ts d n xs ps i h =
    let k = all_plain (kids a_case l (count ts)) ts h in
    one_text (loose (put lex_open (join (lex_first (lex_at_place 0 k)) refl (put lex_case (lex_block (lex_first (lex_at_place 1 k)))))))
form_lexed a_rest v (rest rests.No) ts d n xs ps i h = both_none
form_lexed a_rest v (rest rests.Var) ts d n xs ps i h = one_text (lex_variable n)
form_lexed a_rest v (rest rests.Wild) ts d n xs ps i h = one_text lex_any
form_lexed a_rest v _ ts d n xs ps i h = absurd h
form_lexed part v l ts d n xs ps i h =
    one_each (record { alone = part_lexed (all_plain (kids part l (count ts)) ts h) part v l ts d n i (channel_lexed l ts xs ps h); undropped = part_undropped v l ts d n xs ps i })
form_lexed pat_part v l ts d n xs ps i h =
    let k = all_plain (kids pat_part l (count ts)) ts h in one_text (part_lexed k pat_part v l ts d n i (pattern_channel_lexed l ts k))
form_lexed name_part v l ts d n xs ps i h =
    let k = all_plain (kids name_part l (count ts)) ts h in one_text (part_lexed k name_part v l ts d n i (name_channel_lexed l ts k))

mutual
  -- the texts of a tree
  pub lexed : (t : Tree) (s : Sort) (v : Scope) (d n : ℕ) → Fits s v t → TextClaim s t (printed s t d n) (pieces s t d n)
  lexed (node l ts) s v d n h =
      form_lexed s v l ts d n _ _ h.0 (lexed_kids ts (kids s l (count ts)) (outer s l v) (reverse (binders l ts)) (length (binders l ts)) d (first_number l d n) h.1)

  -- the texts of constituents
  lexed_kids : (ts : Trees) (k : Kids) (v : Scope) (o : List Sense) (b d n : ℕ) → Hold k v o ts → KidsLexed k ts (all_printed k ts b d n) (all_pieces k ts b d n)
  lexed_kids none (all s) v o b d n h = beside_none
  lexed_kids (also t ts) (all s) v o b d n h = beside_also (lexed t s v d n h.0) (lexed_kids ts (all s) v o b d (n + length (variables t)) h.1)
  lexed_kids none (these []) v o b d n h = turned_none
  lexed_kids (also t ts) (these []) v o b d n h = absurd h
  lexed_kids none (these (s ∷ ss)) v o b d n h = absurd h
  lexed_kids (also t none) (these (s ∷ [])) v o b d n h = turned_also (lexed t s (o ++ v) (d + b) (max (d + b) n) h.0) turned_none
  lexed_kids (also t none) (these (s ∷ z ∷ ss)) v o b d n h = absurd h.1
  lexed_kids (also t (also u us)) (these (s ∷ ss)) v o b d n h = turned_also (lexed t s v d n h.0) (lexed_kids (also u us) (these ss) v o b d (n + length (variables t)) h.1)
  lexed_kids ts no_form v o b d n h = absurd h

-- the text of a process
pub text_lexed : (t : Tree) (v : Scope) (d n : ℕ) → Fits term v t → Lexed true (first_text (printed term t d n)) (first_piece (pieces term t d n))
text_lexed t v d n h = lex_first (plain term t _ _ (lexed t term v d n h))
