-- What the constituents of a form come to, and each form of a process whose constituents fit.
use Rattle.std.proofs.Common.{◌≡◌, List, [], ◌∷◌, ◌++◌, map, length, reverse, sym, ap, refl, ◌∙◌, append-nil, arith}
use Rattle.std.proofs.lemmas.List.{length-map}
use Rattle.calculus.specs.Tree.{Label, par, row, int, str, uri, bytes, fresh, var, name_var, tuple, receive, new, match, case, method, pattern, either, not_this, set_pattern, map_pattern, Tree, trees}
use Rattle.calculus.specs.Shape.{count, held, listed, at}
use Rattle.calculus.specs.Variables.{a_name, bound, bound_all}
use Rattle.calculus.specs.Written.{in_process, around, declare, Written, form, Writtens, no_more, more}
use Rattle.calculus.specs.Bare.{Names, names, bare_in, bare_each, declared_origin}
use Rattle.calculus.specs.Form.{Sort, term, part, a_bind, a_case, row_of, Kids, IsPlain, Fits, Hold}
use Rattle.calculus.proofs.Placing.{listed-trees}
use Rattle.scope.specs.Binding.{Scope, variables, all_variables, declared_variables, inside}
use Rattle.source_laws.specs.WellFormed.{process_kids, members, IsInRange, IsOfSort, Are}
use Rattle.source_laws.proofs.Scopes.{names_of, senses}
use Rattle.source_laws.proofs.Naming.{term-names, term-variables, same-names}
use Rattle.source_laws.proofs.Widths.{how-many}
use Rattle.source_laws.proofs.ClosedReading.{NoReceive}
use Rattle.source_laws.proofs.Parts.{flat-terms}
use Rattle.source_laws.proofs.Inside.{term-bound, body-bound, body-fits}

-- the bare form of a written tree, beside more names outside its scope
abbrev pub bare_of : Scope → Names → Written → Tree
bare_of v w t = bare_in t (names_of v ++ w)

abbrev pub bare_all : Scope → Names → Writtens → List Tree
bare_all v w ts = bare_each ts (names_of v ++ w) []

-- it fits, and binds the variables that are written
abbrev pub Comes : Sort → Scope → Names → Written → Type 0
Comes s v w t = Fits s (senses v) (bare_of v w t) × (bound (bare_of v w t) ≡ senses (variables t))

abbrev pub AllCome : Kids → Scope → Names → Writtens → Type 0
AllCome p v w ts = Hold p (senses v) [] (trees (bare_all v w ts)) × (bound_all (trees (bare_all v w ts)) ≡ senses (all_variables ts))

-- a process binds none
pub comes-term : (v : Scope) (w : Names) (t : Written) → IsOfSort term t → Fits term (senses v) (bare_of v w t) → Comes term v w t
comes-term v w t h k = (k, term-bound (senses v) (bare_of v w t) k ∙ ap senses (sym (term-variables t h)))

pub count-trees : (ts : List Tree) → count (trees ts) ≡ length ts
count-trees [] = refl
count-trees (t ∷ ts) = omega (arith, count-trees ts)

-- the number of constituents of a row
pub row-length : (s : Sort) (t : Written) (x : Names) → IsOfSort (row_of s) t → length (held (bare_in t x)) ≡ members 0 (more t no_more)
row-length s (form (around row) ts) x h = ap length (listed-trees (bare_each ts x [])) ∙ how-many ts x []
row-length s (form (around _) ts) x h = absurd h.1
row-length s (form _ ts) x h = absurd h.1

members-first : (t : Written) (ts : Writtens) → members 0 (more t ts) ≡ members 0 (more t no_more)
members-first (form f us) ts = refl

cases-count : (ts : Writtens) (x : Names) → Are (process_kids match) ts → length (held (at 1 (listed (trees (bare_each ts x []))))) ≡ members 1 ts
cases-count no_more x h = absurd h
cases-count (more t no_more) x h = absurd h.1
cases-count (more t (more u no_more)) x h = row-length a_case u x h.1.0
cases-count (more t (more u (more z zs))) x h = absurd h.1.1

-- what must hold of a form of a process beside its constituents
process-plain : (l : Label) (ts : Writtens) (v : Scope) (x : Names) → NoReceive l → IsInRange (in_process l) ts → Are (process_kids l) ts → IsPlain part (senses v) l (trees (bare_each ts x []))
process-plain (int z) ts v x n h k = h.0
process-plain (str z) ts v x n h k = h.0
process-plain (uri z) ts v x n h k = h.0
process-plain (bytes z) ts v x n h k = h.0
process-plain (fresh z) ts v x n h k = h.0
process-plain (method z) ts v x n h k = h.0
process-plain tuple ts v x n h k = rw (count-trees (bare_each ts x []), how-many ts x []) h.1
process-plain match ts v x n h k = rw (cases-count ts x k) h.1
process-plain (receive k) ts v x n h m = absurd n
process-plain (var i) ts v x n h k = absurd k
process-plain (name_var i) ts v x n h k = absurd k
process-plain (new os) ts v x n h k = absurd k
process-plain pattern ts v x n h k = absurd k
process-plain set_pattern ts v x n h k = absurd k
process-plain map_pattern ts v x n h k = absurd k
process-plain either ts v x n h k = absurd k
process-plain not_this ts v x n h k = absurd k
process-plain _ ts v x n h k = tt

-- a form of a process that binds nothing
pub process-made : (l : Label) (ts : Writtens) (v : Scope) (w : Names) → NoReceive l → IsOfSort term (form (in_process l) ts) → AllCome (process_kids l) v w ts → Fits term (senses v) (bare_of v w (form (in_process l) ts))
process-made par ts v w n h c = (tt, flat-terms (senses v) [] (bare_all v w ts) c.0)
process-made (receive k) ts v w n h c = absurd n
process-made (var i) ts v w n h c = absurd h.1
process-made (name_var i) ts v w n h c = absurd h.1
process-made (new os) ts v w n h c = absurd h.1
process-made case ts v w n h c = absurd h.1
process-made l ts v w n h c = (tt, ((process-plain l ts v (names_of v ++ w) n h.0 h.1, c.0), tt))

-- a receive: the body stands in the scope of what the binds bind
pub receive-made : (k : _) (bs b : Written) (v : Scope) (w : Names) → IsOfSort term (form (in_process (receive k)) (more bs (more b no_more)))
    → Comes (row_of a_bind) v w bs → Fits term (senses (inside (variables bs) v)) (bare_of (inside (variables bs) v) w b)
    → Fits term (senses v) (bare_of v w (form (in_process (receive k)) (more bs (more b no_more))))
receive-made k bs b v w h c f =
    let xs : Names = names bs ++ (names b ++ []) in
    let e : xs ≡ names_of (variables bs) = ap (λ ys. names bs ++ (ys ++ [])) (term-names b h.1.1.0) ∙ append-nil (names bs) ∙ same-names (row_of a_bind) bs h.1.0 in
    let n = body-bound b (variables bs) v w xs e f in
    let o = bound (bare_of v w bs) ++ (bound (bare_in b (reverse xs ++ (names_of v ++ w))) ++ []) in
    let d : o ≡ senses (variables bs) = ap (λ ys. bound (bare_of v w bs) ++ (ys ++ [])) n ∙ append-nil (bound (bare_of v w bs)) ∙ c.1 in
    let m : length (held (bare_of v w bs)) ≡ members 0 (more bs (more b no_more)) = row-length a_bind bs (names_of v ++ w) h.1.0 ∙ sym (members-first bs (more b no_more)) in
    (tt, (((rw m h.0.1.0, rw m h.0.1.1), (c.0, (body-fits b (variables bs) v w xs e f o d, tt))), tt))

declared-names : (ds : _) → map (λ d. d.0) ds ≡ names_of (declared_variables ds)
declared-names [] = refl
declared-names (d ∷ ds) = ap (λ ys. d.0 ∷ ys) (declared-names ds)

declared-senses : (ds : _) → map (λ o. a_name) (map (λ d. declared_origin d.1) ds) ≡ senses (declared_variables ds)
declared-senses [] = refl
declared-senses (d ∷ ds) = ap (λ ys. a_name ∷ ys) (declared-senses ds)

-- a `new`: the body stands in the scope of the names
pub new-made : (ds : _) (b : Written) (v : Scope) (w : Names) → IsOfSort term (form (declare ds) (more b no_more))
    → Fits term (senses (inside (declared_variables ds) v)) (bare_of (inside (declared_variables ds) v) w b)
    → Fits term (senses v) (bare_of v w (form (declare ds) (more b no_more)))
new-made ds b v w h f =
    (tt, ((rw (length-map ds (λ d. declared_origin d.1)) h.0, (body-fits b (declared_variables ds) v w (map (λ d. d.0) ds) (declared-names ds) f (map (λ o. a_name) (map (λ d. declared_origin d.1) ds)) (declared-senses ds), tt)), tt))
