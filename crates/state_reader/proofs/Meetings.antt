-- Rows with one code each allow the same steps.
use Rattle.std.proofs.Common.{◌≡◌, ℕ, suc, Bool, true, false, cond, List, [], ◌∷◌, ◌++◌, map as each, refl, ap, sym, ◌∙◌, subst, arith}
use Rattle.std.specs.Prelude.{All, eqb, flat_map, ◌&&◌, ◌||◌, IsTrue, is_none, None, Option, option_and_then, Some, ⊤}
use Rattle.std.specs.List.{AllZip}
use Rattle.std.specs.Str.{bytes_eq}
use Rattle.calculus.specs.declared.plain.Kind.{Kind}
use Rattle.calculus.specs.declared.plain.Kind.TheVariants as kinds
use Rattle.calculus.specs.Bytes.{be32, joined}
use Rattle.calculus.specs.Code.{byte_of, code, codes}
use Rattle.calculus.specs.Congruence.{congruent}
use Rattle.calculus.specs.Form.{term, a_bind, row_of}
use Rattle.calculus.specs.Kinds.{kind_number}
use Rattle.calculus.specs.Log.{Step}
use Rattle.calculus.specs.Matching.{Bindings, bind_matches, first_of_all}
use Rattle.calculus.specs.Rows.{Row, row_code, stdout, stdout_ack}
use Rattle.calculus.specs.Shape.{at, count, held, listed}
use Rattle.calculus.specs.Steps.{all_bindings, all_persistent, as_data, as_datum, as_receiver, bindings_of, Datum, differ, first_there, meet, meet_for, meet_rows, Meeting, meeting, PlacedRow, Receiver, right_repeat, row_choices, standing, stays, with_id}
use Rattle.calculus.specs.Storing.{IsStorable}
use Rattle.calculus.specs.Tree.{row, Tree, node, Trees, none, also}
use Rattle.calculus.proofs.CodesAgree.{code_is_congruence, codes_agree}
use Rattle.calculus.proofs.FromFits.{codes_split}
use Rattle.calculus.proofs.Prefixes.{cut, Splits-length}
use Rattle.calculus.proofs.Ranges.{ranged}
use Rattle.calculus.proofs.Tails.{length-be32, one-be32}
use Rattle.process_laws.specs.MatchingLaws.{AreBinds, AreTargets, IsSameMatch, IsTarget}
use Rattle.process_laws.proofs.Matched.{binds_match_alike}
use Rattle.events.specs.Events.{stored}
use Rattle.code_faults.specs.Refusing.{AreRight, IsRight}
use Rattle.code_faults.proofs.Kids.{count-right, first-right, rest-right, row-are}
use Rattle.row_reader.proofs.Joins.{bind-parts, same-channel}
use Rattle.process_laws.proofs.StorableStaying.{built_in_receivers_are_storable}
use Rattle.state_reader.proofs.Same.{all-head, all-tail, heads}
use Rattle.row_reader.proofs.SentRows.{Parted, a_send, a_receive, parted}
use Rattle.events.specs.Quiet.{AllowNoStep}
use Rattle.state_reader.proofs.SameRows.{storable-row, storable-short}

other-tag : {A : Type 0} → ◌≡◌ {A = ℕ} 1 2 → A
other-tag e = absurd (cc)

tag-other : {A : Type 0} → ◌≡◌ {A = ℕ} 2 1 → A
tag-other e = absurd (cc)

apart : true ≡ false → ⊥
apart e = cc

-- two closed processes with one code
record Same (t u : Tree) : Type 0 where
  pub one : IsTarget t
  pub other : IsTarget u
  pub is : code t ≡ code u

targets : (t u : Tree) → Same t u → AreTargets t u
targets t u h = (h.one, h.other, (code_is_congruence t u h.one.0 h.other.0 h.one.1 h.other.1).0 h.is)

-- a process is congruent to one of two with one code exactly where it is to the other
same-answer : (a b t u : Tree) → Same a b → Same t u → congruent a t ≡ congruent b u
same-answer a b t u h k = on (congruent a t) refl (congruent b u) refl
  where
    there : IsTrue (congruent a t) → IsTrue (congruent b u)
    there c = (code_is_congruence b u h.other.0 k.other.0 h.other.1 k.other.1).0 (sym h.is ∙ (code_is_congruence a t h.one.0 k.one.0 h.one.1 k.one.1).1 c ∙ k.is)

    back : IsTrue (congruent b u) → IsTrue (congruent a t)
    back c = (code_is_congruence a t h.one.0 k.one.0 h.one.1 k.one.1).0 (h.is ∙ (code_is_congruence b u h.other.0 k.other.0 h.other.1 k.other.1).1 c ∙ sym k.is)

    on : (x : Bool) → congruent a t ≡ x → (y : Bool) → congruent b u ≡ y → x ≡ y
    on true p true q = refl
    on false p false q = refl
    on true p false q = absurd (apart (sym (there p) ∙ q))
    on false p true q = absurd (apart (sym (back q) ∙ p))

-- two binds with one code, and their channels
record SameBind (b c : Tree) : Type 0 where
  pub channels : Same (at 0 (held b)) (at 0 (held c))
  pub binds : AreBinds b c

record SameDatum (d e : Datum) : Type 0 where
  pub persistent : d.persistent ≡ e.persistent
  pub channels : Same d.channel e.channel
  pub args : AllZip AreTargets d.args e.args

record SameReceiver (r q : Receiver) : Type 0 where
  pub kind : r.kind ≡ q.kind
  pub binds : AllZip SameBind r.binds q.binds

-- nothing on both sides, or two of this kind
abbrev Both : {A : Type 0} → (A → A → Type 0) → Option A → Option A → Type 0
Both R None None = ⊤
Both R (Some x) (Some y) = R x y
Both R _ _ = ⊥

record SameRow (r q : Row) : Type 0 where
  pub id : r.id ≡ q.id
  pub receiver : Both SameReceiver (as_receiver r.part) (as_receiver q.part)
  pub datum : Both SameDatum (as_datum r.part) (as_datum q.part)

right-target : {more : ℕ} (t : Tree) → IsRight true term [] more t → IsTarget t
right-target t g = (g.fits, g.short)

-- processes of two rows with one code
same-terms : (ts us : Trees) → AreRight true term [] 399 ts → AreRight true term [] 399 us → count ts ≡ count us → joined (codes ts) ≡ joined (codes us) → AllZip AreTargets (listed ts) (listed us)
same-terms none none g h n e = tt
same-terms none (also u us) g h n e = absurd (omega arith)
same-terms (also t ts) none g h n e = absurd (omega arith)
same-terms (also t ts) (also u us) g h n e =
    let a = first-right t ts g in
    let b = first-right u us h in
    let p = cut (code t) (code u) (joined (codes ts)) (joined (codes us)) (codes_split term [] [] t u a.fits b.fits a.short b.short) e in
    (targets t u (record { one = (a.fits, a.short); other = (b.fits, b.short); is = p.0 }), same-terms ts us (rest-right t ts g) (rest-right u us h) (omega (arith, n)) p.1)

same-args : (r q : Tree) → IsRight true (row_of term) [] 399 r → IsRight true (row_of term) [] 399 q → code r ≡ code q → AllZip AreTargets (held r) (held q)
same-args (node row ts) (node row us) g h e =
    let a = row-are ts g in
    let b = row-are us h in
    let p = cut (be32 (count ts)) (be32 (count us)) (joined (codes ts)) (joined (codes us)) (Splits-length (be32 (count ts)) (be32 (count us)) (length-be32 (count ts) ∙ sym (length-be32 (count us)))) e in
    same-terms ts us a b (one-be32 (count ts) (count us) (count-right ts a) (count-right us b) p.0) p.1
same-args (node row ts) (node _ us) g h e = absurd h.fits.1
same-args (node _ ts) q g h e = absurd g.fits.1

same-bind : (t u : Tree) → IsRight true a_bind [] 399 t → IsRight true a_bind [] 399 u → code t ≡ code u → SameBind t u
same-bind t u g h e =
    let p = bind-parts t g in
    let q = bind-parts u h in
    record {
      channels = record { one = (p.right.fits, p.right.short); other = (q.right.fits, q.right.short); is = same-channel t u g h e };
      binds = (([], g.fits), (codes_agree a_bind t u (ranged a_bind [] t g.fits (omega (arith, g.short))) (ranged a_bind [] u h.fits (omega (arith, h.short))) g.short h.short).1 e);
    }

same-joins : (ts us : Trees) → AreRight true a_bind [] 399 ts → AreRight true a_bind [] 399 us → count ts ≡ count us → joined (codes ts) ≡ joined (codes us) → AllZip SameBind (listed ts) (listed us)
same-joins none none g h n e = tt
same-joins none (also u us) g h n e = absurd (omega arith)
same-joins (also t ts) none g h n e = absurd (omega arith)
same-joins (also t ts) (also u us) g h n e =
    let a = first-right t ts g in
    let b = first-right u us h in
    let p = cut (code t) (code u) (joined (codes ts)) (joined (codes us)) (codes_split a_bind [] [] t u a.fits b.fits a.short b.short) e in
    (same-bind t u a b p.0, same-joins ts us (rest-right t ts g) (rest-right u us h) (omega (arith, n)) p.1)

same-binds : (r q : Tree) → IsRight true (row_of a_bind) [] 399 r → IsRight true (row_of a_bind) [] 399 q → code r ≡ code q → AllZip SameBind (held r) (held q)
same-binds (node row ts) (node row us) g h e =
    let a = row-are ts g in
    let b = row-are us h in
    let p = cut (be32 (count ts)) (be32 (count us)) (joined (codes ts)) (joined (codes us)) (Splits-length (be32 (count ts)) (be32 (count us)) (length-be32 (count ts) ∙ sym (length-be32 (count us)))) e in
    same-joins ts us a b (one-be32 (count ts) (count us) (count-right ts a) (count-right us b) p.0) p.1
same-binds (node row ts) (node _ us) g h e = absurd h.fits.1
same-binds (node _ ts) q g h e = absurd g.fits.1

same-flag : (x y : Bool) → byte_of x ≡ byte_of y → x ≡ y
same-flag true true e = refl
same-flag false false e = refl
same-flag true false e = absurd (omega (arith, e))
same-flag false true e = absurd (omega (arith, e))

same-kind : (x y : Kind) → kind_number x ≡ kind_number y → x ≡ y
same-kind kinds.Linear kinds.Linear e = refl
same-kind kinds.Persistent kinds.Persistent e = refl
same-kind kinds.Peek kinds.Peek e = refl
same-kind kinds.Linear kinds.Persistent e = absurd (omega (arith, e))
same-kind kinds.Linear kinds.Peek e = absurd (omega (arith, e))
same-kind kinds.Persistent kinds.Linear e = absurd (omega (arith, e))
same-kind kinds.Persistent kinds.Peek e = absurd (omega (arith, e))
same-kind kinds.Peek kinds.Linear e = absurd (omega (arith, e))
same-kind kinds.Peek kinds.Persistent e = absurd (omega (arith, e))

tails : {x y : ℕ} {xs ys : List ℕ} → x ∷ xs ≡ y ∷ ys → (x ≡ y) × (xs ≡ ys)
tails e = (cc, cc)

-- rows with one code are the same, as far as steps go
same-row : (r q : Row) → IsStorable r → IsStorable q → row_code r ≡ row_code q → SameRow r q
same-row r q h k e = on (parted r (storable-row r h) (storable-short r h)) (parted q (storable-row q k) (storable-short q k))
  where
    between : {a b : List ℕ} → row_code r ≡ a → row_code q ≡ b → a ≡ b
    between p u = sym p ∙ e ∙ u

    moved : {t u : Tree} → r.part ≡ t → q.part ≡ u → r.id ≡ q.id → Both SameReceiver (as_receiver t) (as_receiver u) → Both SameDatum (as_datum t) (as_datum u) → SameRow r q
    moved {t = t} {u = u} i j x y z = record {
      id = x;
      receiver = subst (λ w. Both SameReceiver (as_receiver w) (as_receiver q.part)) (sym i) (subst (λ w. Both SameReceiver (as_receiver t) (as_receiver w)) (sym j) y);
      datum = subst (λ w. Both SameDatum (as_datum w) (as_datum q.part)) (sym i) (subst (λ w. Both SameDatum (as_datum t) (as_datum w)) (sym j) z);
    }

    on : Parted r.id r.part → Parted q.id q.part → SameRow r q
    on (a_send f c a is i g l) (a_send o d b p j m n) =
        let x = cut r.id q.id _ _ (Splits-length r.id q.id (h.id.0 ∙ sym k.id.0)) (tails (between is p)).1 in
        let y = cut (code c) (code d) _ _ (codes_split term [] [] c d g.fits m.fits g.short m.short) x.1 in
        moved i j x.0 tt (record { persistent = same-flag f o (tails y.1).0; channels = record { one = (g.fits, g.short); other = (m.fits, m.short); is = y.0 }; args = same-args a b l n (tails y.1).1 })
    on (a_send f c a is i g l) (a_receive o b body p j m n some few u) = other-tag (tails (between is p)).0
    on (a_receive f c a is i g l some few u) (a_send o d b p j m n) = tag-other (tails (between is p)).0
    on (a_receive f c a is i g l some few u) (a_receive o d b p j m n many less v) =
        let x = cut r.id q.id _ _ (Splits-length r.id q.id (h.id.0 ∙ sym k.id.0)) (tails (between is p)).1 in
        let y = cut (code c) (code d) _ _ (codes_split (row_of a_bind) [] [] c d g.fits m.fits g.short m.short) (tails x.1).1 in
        moved i j x.0 (record { kind = same-kind f o (tails x.1).0; binds = same-binds c d g m y.0 }) tt

then-none : {A B C D : Type 0} (x : Option A) (y : Option B) (f : A → Option C) (g : B → Option D) → is_none x ≡ is_none y → ((a : A) (b : B) → is_none (f a) ≡ is_none (g b)) → is_none (option_and_then f x) ≡ is_none (option_and_then g y)
then-none None None f g e h = refl
then-none None (Some b) f g e h = absurd (cc)
then-none (Some a) None f g e h = absurd (cc)
then-none (Some a) (Some b) f g e h = h a b

both-then : {A B : Type 0} (R : A → A → Type 0) (S : B → B → Type 0) (x y : Option A) (f g : A → Option B) → Both R x y → ((a b : A) → R a b → Both S (f a) (g b)) → Both S (option_and_then f x) (option_and_then g y)
both-then R S None None f g h k = tt
both-then R S None (Some b) f g h k = absurd h
both-then R S (Some a) None f g h k = absurd h
both-then R S (Some a) (Some b) f g h k = k a b h

same-match : (x y : Option Bindings) → IsSameMatch x y → is_none x ≡ is_none y
same-match None None h = refl
same-match None (Some b) h = absurd h
same-match (Some a) None h = absurd h
same-match (Some a) (Some b) h = refl

same-bindings : (b c : Tree) (d e : Datum) → SameBind b c → SameDatum d e → is_none (bindings_of b d) ≡ is_none (bindings_of c e)
same-bindings b c d e h k = on (congruent (at 0 (held b)) d.channel) (congruent (at 0 (held c)) e.channel) (same-answer (at 0 (held b)) (at 0 (held c)) d.channel e.channel h.channels k.channels)
  where
    on : (x y : Bool) → x ≡ y → is_none (cond x (first_of_all (bind_matches b d.args)) None) ≡ is_none (cond y (first_of_all (bind_matches c e.args)) None)
    on true true p = same-match _ _ (binds_match_alike b c d.args e.args h.binds k.args).1
    on false false p = refl
    on true false p = absurd (cc)
    on false true p = absurd (cc)

same-all : (bs cs : List Tree) (ds es : List Datum) → AllZip SameBind bs cs → AllZip SameDatum ds es → is_none (all_bindings bs ds) ≡ is_none (all_bindings cs es)
same-all [] [] [] [] h k = refl
same-all [] [] [] (e ∷ es) h k = absurd k
same-all [] [] (d ∷ ds) [] h k = absurd k
same-all [] [] (d ∷ ds) (e ∷ es) h k = refl
same-all [] (c ∷ cs) ds es h k = absurd h
same-all (b ∷ bs) [] ds es h k = absurd h
same-all (b ∷ bs) (c ∷ cs) [] [] h k = refl
same-all (b ∷ bs) (c ∷ cs) [] (e ∷ es) h k = absurd k
same-all (b ∷ bs) (c ∷ cs) (d ∷ ds) [] h k = absurd k
same-all (b ∷ bs) (c ∷ cs) (d ∷ ds) (e ∷ es) h k =
    then-none (bindings_of b d) (bindings_of c e) _ _ (same-bindings b c d e h.0 k.0) (λ x y. then-none (all_bindings bs ds) (all_bindings cs es) _ _ (same-all bs cs ds es h.1 k.1) (λ p q. refl))

SamePlaced : PlacedRow → PlacedRow → Type 0
SamePlaced h k = SameRow h.1 k.1

data-same : (hs ks : List PlacedRow) → AllZip SamePlaced hs ks → Both (AllZip SameDatum) (as_data hs) (as_data ks)
unfolding SamePlaced
data-same [] [] h = tt
data-same [] (k ∷ ks) h = absurd h
data-same (g ∷ hs) [] h = absurd h
data-same (g ∷ hs) (k ∷ ks) h =
    both-then SameDatum (AllZip SameDatum) (as_datum g.1.part) (as_datum k.1.part) _ _ h.0.datum
    (λ d e p. both-then (AllZip SameDatum) (AllZip SameDatum) (as_data hs) (as_data ks) _ _ (data-same hs ks h.1) (λ ds es q. (p, q)))

persistent-same : (ds es : List Datum) → AllZip SameDatum ds es → all_persistent ds ≡ all_persistent es
persistent-same [] [] h = refl
persistent-same [] (e ∷ es) h = absurd h
persistent-same (d ∷ ds) [] h = absurd h
persistent-same (d ∷ ds) (e ∷ es) h = ap (λ b. b && all_persistent ds) h.0.persistent ∙ ap (λ b. e.persistent && b) (persistent-same ds es h.1)

record SameMeeting (m n : Meeting) : Type 0 where
  pub kind : m.receiver.kind ≡ n.receiver.kind
  pub persistent : all_persistent m.sends ≡ all_persistent n.sends

some-same : (x y : Option Bindings) (f g : Bindings → Meeting) → is_none x ≡ is_none y → ((a b : Bindings) → SameMeeting (f a) (g b)) → Both SameMeeting (option_and_then (λ xs. Some (f xs)) x) (option_and_then (λ xs. Some (g xs)) y)
some-same None None f g p h = tt
some-same None (Some y) f g p h = absurd (cc)
some-same (Some x) None f g p h = absurd (cc)
some-same (Some x) (Some y) f g p h = h x y

meet-same : (g k : PlacedRow) (hs ks : List PlacedRow) (r q : Receiver) (ds es : List Datum) → SameReceiver r q → AllZip SameDatum ds es → Both SameMeeting (meet g hs r ds) (meet k ks q es)
meet-same g k hs ks r q ds es h a =
    some-same (all_bindings r.binds ds) (all_bindings q.binds es) _ _ (same-all r.binds q.binds ds es h.binds a) (λ x y. record { kind = h.kind; persistent = persistent-same ds es a })

rows-meet : (hs ks : List PlacedRow) → AllZip SamePlaced hs ks → Both SameMeeting (meet_rows hs) (meet_rows ks)
unfolding SamePlaced
rows-meet [] [] h = tt
rows-meet [] (k ∷ ks) h = absurd h
rows-meet (g ∷ hs) [] h = absurd h
rows-meet (g ∷ hs) (k ∷ ks) h =
    both-then SameReceiver SameMeeting (as_receiver g.1.part) (as_receiver k.1.part) _ _ h.0.receiver
    (λ r q p. both-then (AllZip SameDatum) SameMeeting (as_data hs) (as_data ks) _ _ (data-same hs ks h.1) (λ ds es a. meet-same g k hs ks r q ds es p a))

meets-for : (s : Step) (hs ks : List PlacedRow) → AllZip SamePlaced hs ks → is_none (meet_for [] s hs) ≡ is_none (meet_for [] s ks)
meets-for s hs ks h = on (meet_rows hs) (meet_rows ks) (rows-meet hs ks h)
  where
    tested : (m n : Meeting) (x y : Bool) → x ≡ y → is_none (cond x (Some m) None) ≡ is_none (cond y (Some n) None)
    tested m n true true p = refl
    tested m n false false p = refl
    tested m n true false p = absurd (cc)
    tested m n false true p = absurd (cc)

    right : (m n : Meeting) → SameMeeting m n → right_repeat [] s m ≡ right_repeat [] s n
    right m n k = ap (λ z. eqb s.repeat 0 && (eqb s.repeat 0 || (stays z && all_persistent m.sends))) k.kind ∙ ap (λ z. eqb s.repeat 0 && (eqb s.repeat 0 || (stays n.receiver.kind && z))) k.persistent

    on : (x y : Option Meeting) → Both SameMeeting x y → is_none (option_and_then (λ m. cond (right_repeat [] s m) (Some m) None) x) ≡ is_none (option_and_then (λ m. cond (right_repeat [] s m) (Some m) None) y)
    on None None k = refl
    on None (Some n) k = absurd k
    on (Some m) None k = absurd k
    on (Some m) (Some n) k = tested m n (right_repeat [] s m) (right_repeat [] s n) (right m n k)

append-zip : {A B : Type 0} (R : A → B → Type 0) (xs us : List A) (ys vs : List B) → AllZip R xs ys → AllZip R us vs → AllZip R (xs ++ us) (ys ++ vs)
append-zip R [] us [] vs h k = k
append-zip R [] us (y ∷ ys) vs h k = absurd h
append-zip R (x ∷ xs) us [] vs h k = absurd h
append-zip R (x ∷ xs) us (y ∷ ys) vs h k = (h.0, append-zip R xs us ys vs h.1 k)

each-zip : {A B C D : Type 0} (R : A → B → Type 0) (S : C → D → Type 0) (f : A → C) (g : B → D) (xs : List A) (ys : List B) → AllZip R xs ys → ((x : A) (y : B) → R x y → S (f x) (g y)) → AllZip S (each f xs) (each g ys)
each-zip R S f g [] [] h k = tt
each-zip R S f g [] (y ∷ ys) h k = absurd h
each-zip R S f g (x ∷ xs) [] h k = absurd h
each-zip R S f g (x ∷ xs) (y ∷ ys) h k = (k x y h.0, each-zip R S f g xs ys h.1 k)

flat-zip : {A B C D : Type 0} (R : A → B → Type 0) (S : C → D → Type 0) (f : A → List C) (g : B → List D) (xs : List A) (ys : List B) → AllZip R xs ys → ((x : A) (y : B) → R x y → AllZip S (f x) (g y)) → AllZip S (flat_map f xs) (flat_map g ys)
flat-zip R S f g [] [] h k = tt
flat-zip R S f g [] (y ∷ ys) h k = absurd h
flat-zip R S f g (x ∷ xs) [] h k = absurd h
flat-zip R S f g (x ∷ xs) (y ∷ ys) h k = append-zip S (f x) (flat_map f xs) (g y) (flat_map g ys) (k x y h.0) (flat-zip R S f g xs ys h.1 k)

with-same : (x : List ℕ) (i : ℕ) (rs qs : List Row) → AllZip SameRow rs qs → AllZip SamePlaced (with_id x i rs) (with_id x i qs)
unfolding SamePlaced
with-same x i [] [] h = tt
with-same x i [] (q ∷ qs) h = absurd h
with-same x i (r ∷ rs) [] h = absurd h
with-same x i (r ∷ rs) (q ∷ qs) h = on (with-same x (suc i) rs qs h.1) (bytes_eq x r.id) (bytes_eq x q.id) (ap (bytes_eq x) h.0.id)
  where
    on : AllZip SamePlaced (with_id x (suc i) rs) (with_id x (suc i) qs) → (a b : Bool) → a ≡ b → AllZip SamePlaced (cond a ((i, r) ∷ with_id x (suc i) rs) (with_id x (suc i) rs)) (cond b ((i, q) ∷ with_id x (suc i) qs) (with_id x (suc i) qs))
    on m true true p = (h.0, m)
    on m false false p = m
    on m true false p = absurd (cc)
    on m false true p = absurd (cc)

choices-same : (rs qs : List Row) → AllZip SameRow rs qs → (xs : List (List ℕ)) → AllZip (AllZip SamePlaced) (row_choices rs xs) (row_choices qs xs)
choices-same rs qs h [] = (tt, tt)
choices-same rs qs h (x ∷ xs) = flat-zip SamePlaced (AllZip SamePlaced) _ _ (with_id x 0 rs) (with_id x 0 qs) (with-same x 0 rs qs h)
    (λ r q k. each-zip (AllZip SamePlaced) (AllZip SamePlaced) _ _ (row_choices rs xs) (row_choices qs xs) (choices-same rs qs h xs) (λ hs ks l. (k, l)))

first-same : (s : Step) (cs ds : List (List PlacedRow)) → AllZip (AllZip SamePlaced) cs ds → is_none (first_there (each (meet_for [] s) cs)) ≡ is_none (first_there (each (meet_for [] s) ds))
first-same s [] [] h = refl
first-same s [] (d ∷ ds) h = absurd h
first-same s (c ∷ cs) [] h = absurd h
first-same s (c ∷ cs) (d ∷ ds) h = on (first-same s cs ds h.1) (meet_for [] s c) (meet_for [] s d) (meets-for s c d h.0)
  where
    on : is_none (first_there (each (meet_for [] s) cs)) ≡ is_none (first_there (each (meet_for [] s) ds)) → (x y : Option Meeting) → is_none x ≡ is_none y → is_none (first_there (x ∷ each (meet_for [] s) cs)) ≡ is_none (first_there (y ∷ each (meet_for [] s) ds))
    on m None None e = m
    on m None (Some y) e = absurd (cc)
    on m (Some x) None e = absurd (cc)
    on m (Some x) (Some y) e = refl

rows-same : (rs qs : List Row) → All IsStorable rs → All IsStorable qs → each row_code rs ≡ each row_code qs → AllZip SameRow rs qs
rows-same [] [] h k e = tt
rows-same [] (q ∷ qs) h k e = absurd (cc)
rows-same (r ∷ rs) [] h k e = absurd (cc)
rows-same (r ∷ rs) (q ∷ qs) h k e =
    (same-row r q (all-head IsStorable r rs h) (all-head IsStorable q qs k) (heads e).0, rows-same rs qs (all-tail IsStorable r rs h) (all-tail IsStorable q qs k) (heads e).1)

built-ins-same : AllZip SameRow (stdout ∷ stdout_ack ∷ []) (stdout ∷ stdout_ack ∷ [])
built-ins-same =
    let b = built_in_receivers_are_storable in
    let p = all-head IsStorable stdout (stdout_ack ∷ []) b in
    let q = all-head IsStorable stdout_ack [] (all-tail IsStorable stdout (stdout_ack ∷ []) b) in
    (same-row stdout stdout p p refl, (same-row stdout_ack stdout_ack q q refl, tt))

pub meeting-same : (s : Step) (rs qs : List Row) → All IsStorable rs → All IsStorable qs → each row_code rs ≡ each row_code qs → is_none (meeting (stored rs) [] s) ≡ is_none (meeting (stored qs) [] s)
unfolding meeting
meeting-same s rs qs h k e = on (differ s.data_ids)
  where
    all : AllZip SameRow (standing (stored rs)) (standing (stored qs))
    all = append-zip SameRow rs (stdout ∷ stdout_ack ∷ []) qs (stdout ∷ stdout_ack ∷ []) (rows-same rs qs h k e) built-ins-same

    on : (b : Bool) → is_none (cond b (first_there (each (meet_for [] s) (row_choices (standing (stored rs)) (s.receiver ∷ s.data_ids)))) None) ≡ is_none (cond b (first_there (each (meet_for [] s) (row_choices (standing (stored qs)) (s.receiver ∷ s.data_ids)))) None)
    on true = first-same s _ _ (choices-same (standing (stored rs)) (standing (stored qs)) all (s.receiver ∷ s.data_ids))
    on false = refl

none-of : {A : Type 0} (x : Option A) → is_none x ≡ true → x ≡ None
none-of None e = refl
none-of (Some a) e = absurd (cc)

-- rows with the codes of rows that allow no step allow none
pub quiet-moved : (rs qs : List Row) → All IsStorable rs → All IsStorable qs → each row_code rs ≡ each row_code qs → AllowNoStep rs → AllowNoStep qs
quiet-moved rs qs h k e f s = none-of (meeting (stored qs) [] s) (sym (meeting-same s rs qs h k e) ∙ ap is_none (f s))
