-- Forms of patterns that are cut: at each of their fields. And cases, binds and pairs.
use Rattle.std.proofs.Common.{◌≡◌, ℕ, ◌<◌, ◌≤◌, ◌+◌, List, [], ◌∷◌, ◌++◌, length, refl, ap, sym, ◌∙◌, subst, arith, append-nil}
use Rattle.std.specs.Prelude.{Bool, true, false, reverse}
use Rattle.calculus.specs.Tree.{Label, any, par, row, bind, case, pair, rest, tuple, send, receive, new, match, bundle, simple, same, both, either, not_this, list_pattern, set_pattern, map_pattern, pattern, bool, int, str, uri, bytes, fresh, var, name_var, list, set, dict, unary, binary, method, Tree, node, none, also}
use Rattle.calculus.specs.Kinds.{rights_number}
use Rattle.calculus.specs.declared.plain.Rights.{Rights}
use Rattle.calculus.specs.declared.plain.Rights.TheVariants as rights
use Rattle.calculus.specs.declared.plain.Simple.TheVariants as simples
use Rattle.calculus.specs.declared.plain.TermRest.TheVariants as rests
use Rattle.calculus.specs.Size.{height}
use Rattle.calculus.specs.Shape.{leaf, one, two, three, many}
use Rattle.calculus.specs.Code.{byte_of, code}
use Rattle.calculus.specs.Form.{Sort, term, part, a_bind, a_case, pat, name_pat, pat_part, row_of, pair_of, Scope, Fits, Hold, kids, outer, IsPlain}
use Rattle.calculus.specs.Variables.{Sense, bound, bound_all}
use Rattle.code_faults.specs.Reading.{Reads}
use Rattle.code_faults.specs.Refusing.{IsGround}
use Rattle.code_faults.specs.Beginning.{Cuts, Begun, BegunRow, BegunGround}
use Rattle.code_faults.proofs.Forms.{listed-trees, no_variables}
use Rattle.code_faults.proofs.Names.{to_name_pat}
use Rattle.code_faults.proofs.Begins.{first-cut, byte-cut, read-cut, none-cut, Filler}
use Rattle.code_faults.proofs.BegunForms.{true-false, count-held}

-- a part of a pattern whose code, after its tag, is cut
part-cut : {b : Bool} {v : Scope} {room : ℕ} {bs after : List ℕ} (t : Tree) (tag : ℕ) (others : List ℕ) → Fits pat_part v t → height t ≤ room → (b ≡ false → bound t ≡ []) → code t ≡ tag ∷ others → Cuts bs others after → Begun b pat_part v room (tag ∷ bs) after
part-cut {bs = bs} {after = after} t tag others f l n e c = record { tree = t; fits = f; low = l; free = n; cut = subst (λ (z : List ℕ). Cuts (tag ∷ bs) z after) (sym e) (byte-cut tag refl c) }

-- two trees that bind nothing
pub free-two : (t u : Tree) → bound t ≡ [] → bound u ≡ [] → bound t ++ (bound u ++ []) ≡ []
free-two t u e f = rw (e, f) refl

free-one : (t : Tree) → bound t ≡ [] → bound t ++ [] ≡ []
free-one t e = rw e refl

-- nothing of a remainder is there
module _ {b : Bool} {v : Scope} {room : ℕ} {bs : List ℕ} where
  pub list-rest_begun : {u : Tree} {next : List ℕ} → Reads (row_of pat) v room u bs next → (b ≡ false → bound u ≡ []) → Begun b pat_part v (room + 1) (0x20 ∷ bs) next
  list-rest_begun {u = u} c n = part-cut (two list_pattern u (leaf (rest rests.No))) 0x20 _ (tt, (c.fits, ((tt, tt), tt))) (omega (arith, c.low))
      (λ q. free-two u (leaf (rest rests.No)) (n q) refl) refl (read-cut c (none-cut _ (omega arith)))

  pub set-rest_begun : {next : List ℕ} (ts : List Tree) → Reads (row_of pat) v room (many row ts) bs next → (b ≡ false → bound (many row ts) ≡ []) → length ts ≤ 8 → Begun b pat_part v (room + 1) (0x22 ∷ bs) next
  set-rest_begun ts c n m = part-cut (two set_pattern (many row ts) (leaf (rest rests.No))) 0x22 _ (rw (listed-trees ts) m, (c.fits, ((tt, tt), tt))) (omega (arith, c.low))
      (λ q. free-two (many row ts) (leaf (rest rests.No)) (n q) refl) refl (read-cut c (none-cut _ (omega arith)))

  pub map-rest_begun : {next : List ℕ} (ts : List Tree) → Reads (row_of (pair_of pat)) v room (many row ts) bs next → (b ≡ false → bound (many row ts) ≡ []) → length ts ≤ 8 → Begun b pat_part v (room + 1) (0x23 ∷ bs) next
  map-rest_begun ts c n m = part-cut (two map_pattern (many row ts) (leaf (rest rests.No))) 0x23 _ (rw (listed-trees ts) m, (c.fits, ((tt, tt), tt))) (omega (arith, c.low))
      (λ q. free-two (many row ts) (leaf (rest rests.No)) (n q) refl) refl (read-cut c (none-cut _ (omega arith)))

module _ {b : Bool} {v : Scope} {room : ℕ} {bs after : List ℕ} where
  pub list-members_begun : {least most : ℕ} → BegunRow b pat v room least most bs after → Begun b pat_part v (room + 1) (0x20 ∷ bs) after
  list-members_begun h = part-cut (two list_pattern (node row h.trees) (leaf (rest rests.No))) 0x20 _ (tt, ((tt, h.fits), ((tt, tt), tt))) (omega (arith, h.low))
      (λ q. free-two (node row h.trees) (leaf (rest rests.No)) (h.free q) refl) refl (first-cut _ h.cut)

  pub tuple_pattern-begun : {most : ℕ} → BegunRow b pat v room 1 most bs after → Begun b pat_part v (room + 1) (0x21 ∷ bs) after
  tuple_pattern-begun h = part-cut (node tuple h.trees) 0x21 _ (h.enough, h.fits) (omega (arith, h.low)) h.free refl h.cut

  pub set-members_begun : {least : ℕ} → BegunRow b pat v room least 8 bs after → Begun b pat_part v (room + 1) (0x22 ∷ bs) after
  set-members_begun h = part-cut (two set_pattern (node row h.trees) (leaf (rest rests.No))) 0x22 _ (omega (arith, count-held h.trees, h.few), ((tt, h.fits), ((tt, tt), tt))) (omega (arith, h.low))
      (λ q. free-two (node row h.trees) (leaf (rest rests.No)) (h.free q) refl) refl (first-cut _ h.cut)

  pub map-pairs_begun : {least : ℕ} → BegunRow b (pair_of pat) v room least 8 bs after → Begun b pat_part v (room + 1) (0x23 ∷ bs) after
  map-pairs_begun h = part-cut (two map_pattern (node row h.trees) (leaf (rest rests.No))) 0x23 _ (omega (arith, count-held h.trees, h.few), ((tt, h.fits), ((tt, tt), tt))) (omega (arith, h.low))
      (λ q. free-two (node row h.trees) (leaf (rest rests.No)) (h.free q) refl) refl (first-cut _ h.cut)

  pub pat_send-channel_begun : {next : List ℕ} (q : Bool) → bs ≡ byte_of q ∷ next → Begun b name_pat v room next after → Begun b pat_part v (room + 1) (0x30 ∷ bs) after
  pat_send-channel_begun q is g = part-cut (two (send q) g.tree (node row none)) 0x30 _ (tt, (g.fits, ((tt, tt), tt))) (omega (arith, g.low)) (λ z. free-two g.tree (node row none) (g.free z) refl) refl
      (byte-cut (byte_of q) is (first-cut _ g.cut))

  pub pat_send-args_begun : {least most : ℕ} {next last : List ℕ} {u : Tree} (q : Bool) → bs ≡ byte_of q ∷ next → Reads name_pat v room u next last → (b ≡ false → bound u ≡ []) → BegunRow b pat v room least most last after → Begun b pat_part v (room + 1) (0x30 ∷ bs) after
  pat_send-args_begun {u = u} q is c n h = part-cut (two (send q) u (node row h.trees)) 0x30 _ (tt, (c.fits, ((tt, h.fits), tt))) (omega (arith, c.low, h.low)) (λ z. free-two u (node row h.trees) (n z) (h.free z)) refl
      (byte-cut (byte_of q) is (read-cut c (first-cut [] h.cut)))

  pub pat_bundle-body_begun : {next : List ℕ} (r : Rights) → bs ≡ rights_number r ∷ next → Begun false pat v room next after → Begun b pat_part v (room + 1) (0x34 ∷ bs) after
  pat_bundle-body_begun r is g = part-cut (one (bundle r) g.tree) 0x34 _ (free-one g.tree (g.free refl), (g.fits, tt)) (omega (arith, g.low)) (λ z. free-one g.tree (g.free refl)) refl (byte-cut (rights_number r) is (first-cut [] g.cut))

  pub same-body_begun : Begun true term v room bs after → Begun b pat_part v (room + 1) (0x53 ∷ bs) after
  same-body_begun g = part-cut (one same g.tree) 0x53 _ (tt, (g.fits, tt)) (omega (arith, g.low)) (λ z. refl) refl (first-cut [] g.cut)

  pub both-left_begun : Begun b pat v room bs after → Begun b pat_part v (room + 1) (0x54 ∷ bs) after
  both-left_begun g = part-cut (two both g.tree (node pattern none)) 0x54 _ (tt, (g.fits, (((omega arith, omega arith), tt), tt))) (omega (arith, g.low)) (λ z. free-two g.tree (node pattern none) (g.free z) refl) refl (first-cut _ g.cut)

  pub both-right_begun : {u : Tree} {next : List ℕ} → Reads pat v room u bs next → (b ≡ false → bound u ≡ []) → Begun b pat v room next after → Begun b pat_part v (room + 1) (0x54 ∷ bs) after
  both-right_begun {u = u} c n g = part-cut (two both u g.tree) 0x54 _ (tt, (c.fits, (g.fits, tt))) (omega (arith, c.low, g.low)) (λ z. free-two u g.tree (n z) (g.free z)) refl (read-cut c (first-cut [] g.cut))

  pub either-left_begun : Begun false pat v room bs after → Begun b pat_part v (room + 1) (0x55 ∷ bs) after
  either-left_begun g =
      let f = free-two g.tree (node pattern none) (g.free refl) refl in
      part-cut (two either g.tree (node pattern none)) 0x55 _ (f, (g.fits, (((omega arith, omega arith), tt), tt))) (omega (arith, g.low)) (λ z. f) refl (first-cut _ g.cut)

  pub either-right_begun : {u : Tree} {next : List ℕ} → Reads pat v room u bs next → bound u ≡ [] → Begun false pat v room next after → Begun b pat_part v (room + 1) (0x55 ∷ bs) after
  either-right_begun {u = u} c n g =
      let f = free-two u g.tree n (g.free refl) in
      part-cut (two either u g.tree) 0x55 _ (f, (c.fits, (g.fits, tt))) (omega (arith, c.low, g.low)) (λ z. f) refl (read-cut c (first-cut [] g.cut))

  pub not-body_begun : Begun false pat v room bs after → Begun b pat_part v (room + 1) (0x56 ∷ bs) after
  not-body_begun g = part-cut (one not_this g.tree) 0x56 _ (free-one g.tree (g.free refl), (g.fits, tt)) (omega (arith, g.low)) (λ z. free-one g.tree (g.free refl)) refl (first-cut [] g.cut)

  pub name-begun : Begun b pat v room bs after → Begun b name_pat v room bs after
  name-begun g = record { tree = g.tree; fits = to_name_pat v g.tree g.fits; low = g.low; free = g.free; cut = g.cut }

  pub pair-first_begun : {s : Sort} → Filler s v → Begun b s v room bs after → Begun b (pair_of s) v room bs after
  pair-first_begun k g = record { tree = two pair g.tree k.tree; fits = (tt, (g.fits, (k.fits, tt))); low = omega (arith, g.low, k.low); free = λ z. free-two g.tree k.tree (g.free z) k.free; cut = first-cut _ g.cut }

  pub pair-second_begun : {s : Sort} {u : Tree} {next : List ℕ} → Reads s v room u bs next → (b ≡ false → bound u ≡ []) → Begun b s v room next after → Begun b (pair_of s) v room bs after
  pair-second_begun {u = u} c n g = record { tree = two pair u g.tree; fits = (tt, (c.fits, (g.fits, tt))); low = omega (arith, c.low, g.low); free = λ z. free-two u g.tree (n z) (g.free z); cut = read-cut c (first-cut [] g.cut) }

-- nothing of the first field after a tag is there
module _ {b : Bool} {v : Scope} {bs : List ℕ} (room : ℕ) where
  pub pat_send-flag_begun : Begun b pat_part v (room + 1) (0x30 ∷ bs) bs
  pat_send-flag_begun = part-cut (two (send false) (node pattern none) (node row none)) 0x30 _ (tt, (((omega arith, omega arith), tt), ((tt, tt), tt))) (omega arith) (λ z. refl) refl (none-cut _ (omega arith))

  pub pat_bundle-rights_begun : Begun b pat_part v (room + 1) (0x34 ∷ bs) bs
  pat_bundle-rights_begun = part-cut (one (bundle rights.Neither) (node pattern none)) 0x34 _ (refl, (((omega arith, omega arith), tt), tt)) (omega arith) (λ z. refl) refl (none-cut _ (omega arith))

  pub simple-begun : Begun b pat_part v room (0x57 ∷ bs) bs
  simple-begun = part-cut (leaf (simple simples.Bool)) 0x57 _ (tt, tt) (omega arith) (λ z. refl) refl (none-cut _ (omega arith))

heads : (n m : ℕ) (xs ys : List ℕ) → n ∷ xs ≡ m ∷ ys → n ≡ m
heads n m xs ys e = cc

apart : {k y : ℕ} {xs ys bs zs : List ℕ} (m : ℕ) → m < k → y ∷ xs ≡ k ∷ bs → y ∷ ys ≡ m ∷ zs → ⊥
apart {k = k} {y = y} {xs = xs} {ys = ys} {bs = bs} {zs = zs} m l e f = omega (arith, l, heads y k xs bs e, heads y m ys zs f)

over : {k y : ℕ} {xs ys bs zs : List ℕ} (m : ℕ) → k < m → y ∷ xs ≡ k ∷ bs → y ∷ ys ≡ m ∷ zs → ⊥
over {k = k} {y = y} {xs = xs} {ys = ys} {bs = bs} {zs = zs} m l e f = omega (arith, l, heads y k xs bs e, heads y m ys zs f)

pub no-part_begun : {b : Bool} {v : Scope} {room : ℕ} (bs : List ℕ) → Begun b pat_part v room bs bs
no-part_begun bs = record { tree = leaf any; fits = (tt, tt); low = omega arith; free = λ z. refl; cut = none-cut _ (omega arith) }

-- a closed form of a pattern
module _ {b : Bool} {v : Scope} {room : ℕ} {bs after : List ℕ} where
  pub closed-begun : (k : ℕ) → 0x31 ≤ k → k ≤ 0x33 → Begun true part [] room (k ∷ bs) after → Begun b pat_part v room (k ∷ bs) after
  closed-begun k p q g = front g.cut.before g.cut.is g.cut.goes
    where
      on : (y : ℕ) (ys more : List ℕ) (t : Tree) → Fits part [] t → height t ≤ room → y ∷ (ys ++ after) ≡ k ∷ bs → y ∷ (ys ++ more) ≡ code t → 0 < length more → Begun b pat_part v room (k ∷ bs) after
      on y ys more (node (receive x) ts) f l e c s = record { tree = node (receive x) ts; fits = f; low = l; free = λ z. refl; cut = record { before = y ∷ ys; is = e; more = more; goes = c; some = s } }
      on y ys more (node (new x) ts) f l e c s = record { tree = node (new x) ts; fits = f; low = l; free = λ z. refl; cut = record { before = y ∷ ys; is = e; more = more; goes = c; some = s } }
      on y ys more (node match ts) f l e c s = record { tree = node match ts; fits = f; low = l; free = λ z. refl; cut = record { before = y ∷ ys; is = e; more = more; goes = c; some = s } }
      on y ys more (node list ts) f l e c s = absurd (apart 0x20 (omega (arith, p)) e c)
      on y ys more (node tuple ts) f l e c s = absurd (apart 0x21 (omega (arith, p)) e c)
      on y ys more (node set ts) f l e c s = absurd (apart 0x22 (omega (arith, p)) e c)
      on y ys more (node dict ts) f l e c s = absurd (apart 0x23 (omega (arith, p)) e c)
      on y ys more (node (bool x) ts) f l e c s = absurd (apart 0x10 (omega (arith, p)) e c)
      on y ys more (node (int x) ts) f l e c s = absurd (apart 0x11 (omega (arith, p)) e c)
      on y ys more (node (str x) ts) f l e c s = absurd (apart 0x12 (omega (arith, p)) e c)
      on y ys more (node (uri x) ts) f l e c s = absurd (apart 0x13 (omega (arith, p)) e c)
      on y ys more (node (bytes x) ts) f l e c s = absurd (apart 0x14 (omega (arith, p)) e c)
      on y ys more (node (fresh x) ts) f l e c s = absurd (apart 0x15 (omega (arith, p)) e c)
      on y ys more (node (var x) ts) f l e c s = absurd (apart 0x16 (omega (arith, p)) e c)
      on y ys more (node (name_var x) ts) f l e c s = absurd (apart 0x17 (omega (arith, p)) e c)
      on y ys more (node (send x) ts) f l e c s = absurd (apart 0x30 (omega (arith, p)) e c)
      on y ys more (node (bundle x) ts) f l e c s = absurd (over 0x34 (omega (arith, q)) e c)
      on y ys more (node (unary x) ts) f l e c s = absurd (over 0x40 (omega (arith, q)) e c)
      on y ys more (node (binary x) ts) f l e c s = absurd (over 0x41 (omega (arith, q)) e c)
      on y ys more (node (method x) ts) f l e c s = absurd (over 0x42 (omega (arith, q)) e c)
      on y ys more (node _ ts) f l e c s = absurd f.1

      front : (before : List ℕ) → before ++ after ≡ k ∷ bs → before ++ g.cut.more ≡ code g.tree → Begun b pat_part v room (k ∷ bs) after
      front [] e c = subst (λ (z : List ℕ). Begun b pat_part v room z after) e (no-part_begun after)
      front (y ∷ ys) e c = on y ys g.cut.more g.tree g.fits g.low e c g.cut.some

-- a plain value
ground-free : (l : Label) → IsGround l → bound (leaf l) ≡ []
ground-free (bool x) g = refl
ground-free (int x) g = refl
ground-free (str x) g = refl
ground-free (uri x) g = refl
ground-free (bytes x) g = refl
ground-free _ g = absurd g

ground-low : (l : Label) → IsGround l → height (leaf l) ≡ 0
ground-low (bool x) g = refl
ground-low (int x) g = refl
ground-low (str x) g = refl
ground-low (uri x) g = refl
ground-low (bytes x) g = refl
ground-low _ g = absurd g

ground-fits : (s : Sort) (v : Scope) (l : Label) → IsGround l → IsPlain s v l none → Hold (kids s l 0) (outer s l v) [] none → Fits s v (leaf l)
ground-fits s v (bool x) g p h = (p, h)
ground-fits s v (int x) g p h = (p, h)
ground-fits s v (str x) g p h = (p, h)
ground-fits s v (uri x) g p h = (p, h)
ground-fits s v (bytes x) g p h = (p, h)
ground-fits s v _ g p h = absurd g

part-holds : (v : Scope) (l : Label) → IsGround l → Hold (kids part l 0) (outer part l v) [] none
part-holds v (bool x) g = tt
part-holds v (int x) g = tt
part-holds v (str x) g = tt
part-holds v (uri x) g = tt
part-holds v (bytes x) g = tt
part-holds v _ g = absurd g

pat-holds : (v : Scope) (l : Label) → IsGround l → Hold (kids pat_part l 0) (outer pat_part l v) [] none
pat-holds v (bool x) g = tt
pat-holds v (int x) g = tt
pat-holds v (str x) g = tt
pat-holds v (uri x) g = tt
pat-holds v (bytes x) g = tt
pat-holds v _ g = absurd g

module _ {b : Bool} {v : Scope} {room : ℕ} {bs after : List ℕ} (h : BegunGround bs after) where
  pub ground-begun : Begun b part v room bs after
  ground-begun = record { tree = leaf h.label; fits = ground-fits part v h.label h.ground (h.plain part v) (part-holds v h.label h.ground); low = omega (arith, ground-low h.label h.ground); free = λ z. ground-free h.label h.ground; cut = h.cut }

  pub plain-begun : Begun b pat_part v room bs after
  plain-begun = record { tree = leaf h.label; fits = ground-fits pat_part v h.label h.ground (h.plain pat_part v) (pat-holds v h.label h.ground); low = omega (arith, ground-low h.label h.ground); free = λ z. ground-free h.label h.ground; cut = h.cut }

module _ {v : Scope} {room : ℕ} {bs after : List ℕ} where
  pub case-pattern_begun : Begun true pat v room bs after → Begun true a_case v room bs after
  case-pattern_begun g = record { tree = two case g.tree (node par none); fits = (tt, (g.fits, ((tt, tt), tt))); low = omega (arith, g.low); free = λ z. absurd (true-false z); cut = first-cut _ g.cut }

  pub case-body_begun : {w : Scope} {u : Tree} {next : List ℕ} → Reads pat v room u bs next → w ≡ reverse (bound u) ++ v → Begun true term w room next after → Begun true a_case v room bs after
  case-body_begun {w = w} {u = u} c p g =
      let n : bound_all (also u (also g.tree none)) ≡ bound u = rw (no_variables w g.tree g.fits, append-nil (bound u)) in
      let inner : w ≡ reverse (bound_all (also u (also g.tree none))) ++ v = p ∙ ap (λ (vs : List Sense). reverse vs ++ v) (sym n) in
      record { tree = two case u g.tree; fits = (tt, (c.fits, (subst (λ (x : Scope). Fits term x g.tree) inner g.fits, tt))); low = omega (arith, c.low, g.low); free = λ z. absurd (true-false z); cut = read-cut c (first-cut [] g.cut) }

  pub bind-channel_begun : Begun true term v room bs after → Begun true a_bind v room bs after
  bind-channel_begun g = record { tree = three bind g.tree (node row none) (leaf (rest rests.No)); fits = (tt, (g.fits, ((tt, tt), ((tt, tt), tt)))); low = omega (arith, g.low); free = λ z. absurd (true-false z); cut = first-cut _ g.cut }

  pub bind-patterns_begun : {least most : ℕ} {u : Tree} {next : List ℕ} → Reads term v room u bs next → BegunRow true name_pat v room least most next after → Begun true a_bind v room bs after
  bind-patterns_begun {u = u} c h = record { tree = three bind u (node row h.trees) (leaf (rest rests.No)); fits = (tt, (c.fits, ((tt, h.fits), ((tt, tt), tt)))); low = omega (arith, c.low, h.low); free = λ z. absurd (true-false z); cut = read-cut c (first-cut _ h.cut) }

module _ {v : Scope} {room : ℕ} {bs : List ℕ} where
  pub bind-rest_begun : {u r : Tree} {next last : List ℕ} → Reads term v room u bs next → Reads (row_of name_pat) v room r next last → Begun true a_bind v room bs last
  bind-rest_begun {u = u} {r = r} c d = record { tree = three bind u r (leaf (rest rests.No)); fits = (tt, (c.fits, (d.fits, ((tt, tt), tt)))); low = omega (arith, c.low, d.low); free = λ z. absurd (true-false z); cut = read-cut c (read-cut d (none-cut _ (omega arith))) }
