-- Where there is no choice for a bind, no rows at hand meet.
use Rattle.std.proofs.Common.{◌≡◌, Bool, true, false, cond, List, [], ◌∷◌, ◌++◌, map as each, refl, sym, ap, ◌∙◌, subst, inl, inr}
use Rattle.std.specs.Prelude.{◌⊎◌, ⊤, Option, Some, None, option_and_then}
use Rattle.std.specs.declared.alloc.Global.{Global}
use Rattle.std.specs.declared.vec.Vec.{Vec}
use Rattle.calculus.specs.declared.plain.Kind.{Kind}
use Rattle.calculus.specs.declared.ids.Digest.{Digest}
use Rattle.calculus.specs.Tree.{Tree}
use Rattle.calculus.specs.Matching.{Bindings}
use Rattle.calculus.specs.Rows.{Row}
use Rattle.calculus.specs.Steps.{PlacedRow, Datum, Receiver, Meeting, as_receiver, as_datum, as_data, bindings_of, all_bindings, meet}
use Rattle.calculus.proofs.Placing.{listed-trees}
use Rattle.events.specs.Found.{alone, met, Among}
use Rattle.rho_term.specs.declared.op.Op.TheVariants as op
use Rattle.rho_term.specs.declared.term.TermBind.{TermBind}
use Rattle.rho_term.specs.Parts.{bind_tree}
use Rattle.rho_term.specs.Rows.{row_of_op}
use Rattle.process_laws.specs.StorableLaws.{AreApart}
use Rattle.row_search.specs.Rows.{is_sent_on, IsIn}
use Rattle.row_search.specs.Choices.{Fails, takes}
use Rattle.row_search.specs.Meetings.{rows_with, AllAmong}
use Rattle.row_search.proofs.Known.{bind_channels}
use Rattle.row_search.proofs.Taking.{and_then, takes-on}
use Rattle.row_search.proofs.Sound.{receiver_of}
use Rattle.row_search.proofs.Apart.{one-on, no-both}

-- a bind takes a row
abbrev pub Takes : Tree → Row → Type 0
Takes b r = (xs : Bindings) × option_and_then (bindings_of b) (as_datum r.part) ≡ Some xs

-- one by one these binds take these rows
abbrev pub AreMet : List Tree → List Row → Type 0
AreMet [] [] = ⊤
AreMet [] (d ∷ ds) = ⊥
AreMet (b ∷ bs) [] = ⊥
AreMet (b ∷ bs) (d ∷ ds) = Takes b d × AreMet bs ds

one_by_one : (bs : List Tree) (ds : List Row) (fs : List Datum) (xs : Bindings) → as_data (each alone ds) ≡ Some fs → all_bindings bs fs ≡ Some xs → AreMet bs ds
one_by_one [] [] fs xs e f = tt
one_by_one [] (d ∷ ds) fs xs e f =
    let a = and_then (λ (y : Datum). option_and_then (λ (ys : List Datum). Some (y ∷ ys)) (as_data (each alone ds))) (as_datum d.part) fs e in
    let b = and_then (λ (ys : List Datum). Some (a.0 ∷ ys)) (as_data (each alone ds)) fs a.2 in
    let same : a.0 ∷ b.0 ≡ fs = cc in
    let g : all_bindings [] (a.0 ∷ b.0) ≡ Some xs = ap (all_bindings []) same ∙ f in
    cc
one_by_one (b ∷ bs) [] fs xs e f =
    let same : [] ≡ fs = cc in
    let g : all_bindings (b ∷ bs) [] ≡ Some xs = ap (all_bindings (b ∷ bs)) same ∙ f in
    cc
one_by_one (b ∷ bs) (d ∷ ds) fs xs e f =
    let a = and_then (λ (y : Datum). option_and_then (λ (ys : List Datum). Some (y ∷ ys)) (as_data (each alone ds))) (as_datum d.part) fs e in
    let c = and_then (λ (ys : List Datum). Some (a.0 ∷ ys)) (as_data (each alone ds)) fs a.2 in
    let same : a.0 ∷ c.0 ≡ fs = cc in
    let g : all_bindings (b ∷ bs) (a.0 ∷ c.0) ≡ Some xs = ap (all_bindings (b ∷ bs)) same ∙ f in
    let t = and_then (λ (us : Bindings). option_and_then (λ (vs : Bindings). Some (us ++ vs)) (all_bindings bs c.0)) (bindings_of b a.0) xs g in
    let u = and_then (λ (vs : Bindings). Some (t.0 ++ vs)) (all_bindings bs c.0) xs t.2 in
    ((t.0, ap (option_and_then (bindings_of b)) a.1 ∙ t.1), one_by_one bs ds c.0 u.0 c.1 u.1)

-- a row that meets others is a receiver, whose binds take them
pub met-takes : (r : Row) (ds : List Row) (m : Meeting) → met (r ∷ ds) ≡ Some m → (c : Receiver) × (as_receiver r.part ≡ Some c) × AreMet c.binds ds
met-takes r ds m e =
    let hs : List PlacedRow = each alone ds in
    let c = and_then (λ (q : Receiver). option_and_then (meet (alone r) hs q) (as_data hs)) (as_receiver r.part) m e in
    let a = and_then (meet (alone r) hs c.0) (as_data hs) m c.2 in
    let b = and_then _ (all_bindings c.0.binds a.0) m a.2 in
    (c.0, c.1, one_by_one c.0.binds ds a.0 b.0 a.1 b.1)

-- the same of a receiver that is known to be one
pub receiver-takes : (id : Digest) (k : Kind) (bs : Vec TermBind Global) (body : Tree) (ds : List Row) (m : Meeting) → met (row_of_op (op.Consume id k bs body) ∷ ds) ≡ Some m → AreMet (each bind_tree bs.items) ds
receiver-takes id k bs body ds m e =
    let t = met-takes (row_of_op (op.Consume id k bs body)) ds m e in
    let same : receiver_of k bs.items body ≡ t.0 = cc t.1 in
    subst (λ (ts : List Tree). AreMet ts ds) (ap (λ (c : Receiver). c.binds) (sym same) ∙ listed-trees (each bind_tree bs.items)) t.2

row-of : (b : TermBind) (bs : List TermBind) (ds : List Row) → IsIn b bs → AreMet (each bind_tree bs) ds → (d : Row) × Among d ds × Takes (bind_tree b) d
row-of b [] ds k h = absurd k
row-of b (c ∷ bs) [] k h = absurd h
row-of b (c ∷ bs) (d ∷ ds) (inl e) h = (d, inl refl, subst (λ (x : TermBind). Takes (bind_tree x) d) (sym e) h.0)
row-of b (c ∷ bs) (d ∷ ds) (inr k) h = let n = row-of b bs ds k h.1 in (n.0, inr n.1, n.2)

bind-of : (d : Row) (bs : List TermBind) (ds : List Row) → Among d ds → AreMet (each bind_tree bs) ds → (b : TermBind) × IsIn b bs × Takes (bind_tree b) d
bind-of d bs [] k h = absurd k
bind-of d [] (c ∷ ds) k h = absurd h
bind-of d (b ∷ bs) (c ∷ ds) (inl e) h = (b, inl refl, subst (Takes (bind_tree b)) (sym e) h.0)
bind-of d (b ∷ bs) (c ∷ ds) (inr k) h = let n = bind-of d bs ds k h.1 in (n.0, inr n.1, n.2)

-- of binds one takes each row
pub tree-of : (d : Row) (bs : List Tree) (ds : List Row) → Among d ds → AreMet bs ds → (b : Tree) × IsIn b bs × Takes b d
tree-of d bs [] k h = absurd k
tree-of d [] (c ∷ ds) k h = absurd h
tree-of d (b ∷ bs) (c ∷ ds) (inl e) h = (b, inl refl, subst (Takes b) (sym e) h.0)
tree-of d (b ∷ bs) (c ∷ ds) (inr k) h = let n = tree-of d bs ds k h.1 in (n.0, inr n.1, n.2)

among-all : (d : Row) (ds qs : List Row) → AllAmong ds qs → Among d ds → Among d qs
among-all d [] qs h k = absurd k
among-all d (c ∷ ds) qs h (inl e) = subst (λ (r : Row). Among r qs) (sym e) h.0
among-all d (c ∷ ds) qs h (inr k) = among-all d ds qs h.1 k

-- a row at hand is one of the rows or the operation
pub whose : (d : Row) (rs : List Row) (o : Row) → Among d (rows_with rs o) → Among d rs ⊎ (d ≡ o)
whose d [] o (inl e) = inr e
whose d [] o (inr k) = absurd k
whose d (r ∷ rs) o (inl e) = inl (inl e)
whose d (r ∷ rs) o (inr k) = elim (whose d rs o k) [ inl a ↦ inl (inr a) | inr e ↦ inr e ]

nothing : {A : Type 0} (x : Option A) (y : A) → x ≡ None → x ≡ Some y → ⊥
nothing x y e f = cc

module _ (rs : List Row) (o : Row) (bs : List TermBind) (ds : List Row) (h : AllAmong ds (rows_with rs o)) (m : AreMet (each bind_tree bs) ds) where
  -- a bind on another channel than the operation's takes a row at hand
  elsewhere : (b : TermBind) → IsIn b bs → is_sent_on b.channel o ≡ false → ((r : Row) → Among r rs → takes b r ≡ None) → ⊥
  elsewhere b k f n =
      let r = row-of b bs ds k m in
      elim (whose r.0 rs o (among-all r.0 ds (rows_with rs o) h r.1)) [
        | inl a ↦ nothing (takes b r.0) r.2.0 (n r.0 a) r.2.1
        | inr e ↦ no-both (is_sent_on b.channel o) (takes-on b o r.2.0 (ap (takes b) (sym e) ∙ r.2.1)) f
      ]

  -- of the binds the one on the operation's channel takes the operation
  here : (d : Datum) → as_datum o.part ≡ Some d → (b : TermBind) → AreApart (bind_channels bs) → IsIn b bs → is_sent_on b.channel o ≡ true → Among o ds → ((r : Row) → Among r (o ∷ []) → takes b r ≡ None) → ⊥
  here d e b a k f p n =
      let r = bind-of o bs ds p m in
      let same : r.0 ≡ b = one-on o d r.0 b bs e a r.1 k (takes-on r.0 o r.2.0 r.2.1) f in
      nothing (takes b o) r.2.0 (n o (inl refl)) (subst (λ (x : TermBind). takes x o ≡ Some r.2.0) same r.2.1)

  pub no-choice : AreApart (bind_channels bs) → ((b : TermBind) → is_sent_on b.channel o ≡ true → Among o ds) → Fails rs o bs → ⊥
  no-choice a p f = go (is_sent_on f.0.channel o) refl f.2
    where
      there : (x : Option Datum) → as_datum o.part ≡ x → is_sent_on f.0.channel o ≡ true → ((r : Row) → Among r (o ∷ []) → takes f.0 r ≡ None) → ⊥
      there None g e n = cc (g, e)
      there (Some d) g e n = here d g f.0 a f.1 e (p f.0 e) n

      go : (v : Bool) → is_sent_on f.0.channel o ≡ v → ((r : Row) → Among r (cond v (o ∷ []) rs) → takes f.0 r ≡ None) → ⊥
      go true e n = there (as_datum o.part) refl e n
      go false e n = elsewhere f.0 f.1 e n
