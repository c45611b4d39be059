-- What is written of a text so far.
use Rattle.std.specs.Prelude.{◌≡◌, ℕ, suc, ◌+◌, false, List, [], ◌∷◌, ◌++◌, ◌≤◌, ⊤, length, map as each, codes}
use Rattle.calculus.specs.declared.plain.Kind.{Kind}
use Rattle.calculus.specs.declared.plain.TermRest.{TermRest}
use Rattle.calculus.specs.Tree.{Tree, trees}
use Rattle.calculus.specs.Shape.{held}
use Rattle.calculus.specs.Variables.{bound, bound_all}
use Rattle.calculus.specs.Form.{Sort, term, a_bind, pat, name_pat, pat_part, name_part, all}
use Rattle.calculus.specs.Printed.{first_text, separated, bind_texts, rest_text, with_commas, with_rest, operand_text, name_text}
use Rattle.calculus.specs.Formed.{IsFine, Formed, Holds}
use Rattle.printed_leaves.specs.Words.{before}
use Rattle.rho_term.specs.declared.term.Part.{Part}
use Rattle.rho_term.specs.declared.term.Part.TheVariants as parts
use Rattle.calculus.specs.Printed.{printed}
use Rattle.printed_leaves.specs.declared.page.Page.{Page}

-- the text of a tree that prints one text
abbrev pub text_of : Sort → Tree → ℕ → ℕ → List ℕ
text_of s t d n = first_text (printed s t d n)

-- what these print, each of which goes on with the numbers of those before it
abbrev pub chain : (Tree → ℕ → List ℕ) → List Tree → ℕ → List (List ℕ)
chain f [] n = []
chain f (t ∷ ts) n = f t n ∷ chain f ts (n + length (bound t))

-- the texts of these
abbrev pub texts_of : Sort → List Tree → ℕ → ℕ → List (List ℕ)
texts_of s ts d n = chain (λ t m. text_of s t d m) ts n

-- texts from number i of a list on
abbrev pub separated_from : ℕ → List ℕ → List (List ℕ) → List ℕ
separated_from i mark [] = []
separated_from i mark (x ∷ xs) = before i mark ++ (x ++ separated_from (suc i) mark xs)

-- the text of a bind
abbrev pub bind_text_of : Kind → Tree → ℕ → ℕ → List ℕ
bind_text_of k t d n = first_text (bind_texts k (printed a_bind t d n))

-- the texts of binds
abbrev pub binds_texts : Kind → List Tree → ℕ → ℕ → List (List ℕ)
binds_texts k ts d n = chain (λ t m. bind_text_of k t d m) ts n

-- the left side of a bind: patterns and a remainder
abbrev pub left_text : List Tree → TermRest → ℕ → ℕ → List ℕ
left_text ts r d n = with_commas (texts_of name_pat ts d n ++ each (λ x. codes "...@" ++ x) (rest_text r (n + length (bound_all (trees ts)))))

-- members of a collection in a pattern, and its remainder
abbrev pub members_text : Sort → List Tree → TermRest → ℕ → ℕ → List ℕ
members_text s ts r d n = with_rest (texts_of s ts d n) (rest_text r (n + length (bound_all (trees ts))))

-- two patterns with a sign between them
abbrev pub joined_text : Tree → List ℕ → Tree → ℕ → ℕ → List ℕ
joined_text t sign u d n = codes "(" ++ (operand_text (held t) (text_of pat t d n) ++ (sign ++ (operand_text (held u) (text_of pat u d (n + length (bound t))) ++ codes ")")))

-- a ground value, an empty tuple, a receive, a `new` or a `match`
abbrev pub IsClosedForm : Part → Type 0
IsClosedForm (parts.Ground g) = ⊤
IsClosedForm (parts.Tuple ts) = ts.items ≡ []
IsClosedForm (parts.Receive k bs b) = ⊤
IsClosedForm (parts.New os b) = ⊤
IsClosedForm (parts.Match t cs) = ⊤
IsClosedForm _ = ⊥

-- where memory sufficed for the new page, it had sufficed for the old one, and this is so of their texts
abbrev pub Wrote : Page → Page → (List ℕ → List ℕ → Type 0) → Type 0
Wrote old new done = new.failed ≡ false → (old.failed ≡ false) × done old.bytes.items new.bytes.items

-- this text has been added
abbrev pub Adds : List ℕ → List ℕ → List ℕ → Type 0
Adds text old new = new ≡ old ++ text

-- this text has been added, and the next number is `k`
abbrev pub AddsTo : List ℕ → ℕ → ℕ → List ℕ → List ℕ → Type 0
AddsTo text k m old new = (new ≡ old ++ text) × (m ≡ k)

-- where the numbers go on from `n`, which counts the `d` variables in scope too, and this is so, a text has been added that takes so many of them
abbrev pub GoesOn : Type 0 → ℕ → ℕ → List ℕ → ℕ → ℕ → List ℕ → List ℕ → Type 0
GoesOn fine d n text k m old new = d ≤ n → fine → AddsTo text (n + k) m old new

-- a process of this sort has been written after this text
abbrev pub Writes : Sort → Tree → ℕ → List ℕ → List ℕ → Type 0
Writes s t d old new = Formed IsFine s t → (n : ℕ) → new ≡ old ++ text_of s t d n

-- processes of this sort have been written, with a mark between each two
abbrev pub WritesAll : List ℕ → Sort → List Tree → ℕ → List ℕ → List ℕ → Type 0
WritesAll mark s ts d old new = Holds IsFine (all s) (trees ts) → (n : ℕ) → new ≡ old ++ separated mark (texts_of s ts d n)

-- the same with a comma between each two, and between two words
abbrev pub WritesMembers : List ℕ → List Tree → List ℕ → ℕ → List ℕ → List ℕ → Type 0
WritesMembers opening ts closing d old new = Holds IsFine (all term) (trees ts) → (n : ℕ) → new ≡ old ++ (opening ++ (separated (codes ", ") (texts_of term ts d n) ++ closing))

-- a process has been written after this text, in such a form of its own text
abbrev pub WritesAs : (List ℕ → List ℕ) → Tree → ℕ → List ℕ → List ℕ → Type 0
WritesAs form t d old new = Formed IsFine term t → (n : ℕ) → new ≡ old ++ form (text_of term t d n)

-- of a name this has been written but for what is left
abbrev pub WritesName : (List ℕ → List ℕ) → Tree → ℕ → List ℕ → List ℕ → Type 0
WritesName left t d old new = (n : ℕ) → new ++ left (text_of term t d n) ≡ old ++ name_text (held t) (text_of term t d n)

-- what is of this sort has been written after this text, its variables numbered from `n` on, and the next number is `m`
abbrev pub WritesFrom : Sort → Tree → ℕ → ℕ → ℕ → List ℕ → List ℕ → Type 0
WritesFrom s t d n m = GoesOn (Formed IsFine s t) d n (text_of s t d n) (length (bound t)) m

-- the same of a pattern, in such a form of its own text
abbrev pub WritesPattern : (List ℕ → List ℕ) → Tree → ℕ → ℕ → ℕ → List ℕ → List ℕ → Type 0
WritesPattern form t d n m = GoesOn (Formed IsFine name_pat t) d n (form (text_of pat t d n)) (length (bound t)) m

-- the same of a part of a pattern
abbrev pub WritesPart : Tree → ℕ → ℕ → ℕ → List ℕ → List ℕ → Type 0
WritesPart t d n m = GoesOn (Formed IsFine name_part t) d n (text_of pat_part t d n) (length (bound t)) m

-- the same of two patterns with a sign between them
abbrev pub WritesJoined : Tree → List ℕ → Tree → ℕ → ℕ → ℕ → List ℕ → List ℕ → Type 0
WritesJoined t sign u d n m = GoesOn (Formed IsFine pat t × Formed IsFine pat u) d n (joined_text t sign u d n) (length (bound t) + length (bound u)) m

-- the same of all of these, with a comma between each two
abbrev pub WritesListed : Sort → List Tree → ℕ → ℕ → ℕ → List ℕ → List ℕ → Type 0
WritesListed s ts d n m = GoesOn (Holds IsFine (all s) (trees ts)) d n (separated (codes ", ") (texts_of s ts d n)) (length (bound_all (trees ts))) m

-- the same of a bind of a receive of this kind
abbrev pub WritesBind : Kind → Tree → ℕ → ℕ → ℕ → List ℕ → List ℕ → Type 0
WritesBind k t d n m = GoesOn (Formed IsFine a_bind t) d n (bind_text_of k t d n) (length (bound t)) m

-- the same of its binds
abbrev pub WritesBinds : Kind → List Tree → ℕ → ℕ → List ℕ → List ℕ → Type 0
WritesBinds k ts d m = GoesOn (Holds IsFine (all a_bind) (trees ts)) d d (separated (codes " & ") (binds_texts k ts d d)) (length (bound_all (trees ts))) m
