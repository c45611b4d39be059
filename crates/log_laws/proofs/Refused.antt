-- What comes of reading the text of a log: a log whose text the bytes are, or a fault of which they have the cause.
use Rattle.std.proofs.Common.{◌≡◌, ◌≤◌, ◌<◌, ℕ, suc, ◌-◌, ◌^◌, Bool, true, false, cond, List, [], ◌∷◌, ◌++◌, length, refl, ap, sym, ◌∙◌, subst, arith, append_assoc, append-nil, length-append, inl, inr}
use Rattle.std.specs.Prelude.{◌⊎◌, ⊤, Result, Ok, Err, leb, eqb, codes}
use Rattle.std.proofs.lemmas.Bool.{leb-true, leb-false, eqb-true, eqb-false}
use Rattle.calculus.specs.Bytes.{be32}
use Rattle.calculus.proofs.Tails.{length-be32}
use Rattle.calculus.specs.Log.{Header, Step, header_text, log_text}
use Rattle.event_log.specs.declared.fault.LogFault.{LogFault}
use Rattle.event_log.specs.declared.fault.LogFault.TheVariants.{Short, Bad, Version, TooLong}
use Rattle.event_log.specs.Reading.{◌>>=◌, Read, number_of_4, name, version, header, count, steps, end, log_in, log_of}
use Rattle.event_log.specs.Laws.{AreBytes, AreSteps, IsHeader}
use Rattle.log_laws.specs.Laws.{IsLog, GoesOn, IsCutLog, EndsInCount, IsWrongAt, HasVersion, HasCount, IsCause, OnlyLogsAreRead, RefusalsHaveCauses}
use Rattle.log_laws.proofs.Lists.{same-front, bytes-append, bytes-rest, bytes-none_32}
use Rattle.log_laws.proofs.Stable.{opened}
use Rattle.log_laws.proofs.Outcomes.{Cut, Wrong, Outcome, stands, short, wrong, SoMany}
use Rattle.log_laws.proofs.Fields.{Fits_4, number-4-outcome, header_rest, header-outcome, blank_header, is-blank_header, bytes-blank_header}
use Rattle.log_laws.proofs.Steps.{step_texts, steps-outcome, blank-steps}
use Rattle.log_laws.proofs.Fronts.{length-header, log-behind, same-body, same-log, length-log, cut-header, cut-steps, place-of}

-- what comes of reading bytes as the text of a log
pub data LogOutcome (bs : List ℕ) (v : Result (Header × List Step) LogFault) : Type 0 where
  whole : (h : Header) (ss : List Step) → IsLog h ss → bs ≡ log_text h ss → v ≡ Ok (h, ss) → LogOutcome bs v
  refused : (e : LogFault) → IsCause bs e → v ≡ Err e → LogOutcome bs v

moved : (bs : List ℕ) (w v : Result (Header × List Step) LogFault) → w ≡ v → LogOutcome bs v → LogOutcome bs w
moved bs w v e (whole h ss l i q) = whole h ss l i (e ∙ q)
moved bs w v e (refused f c q) = refused f c (e ∙ q)

-- a log from its end on, from its steps on, and from their number on
abbrev with_end : ℕ → Header → List Step × List ℕ → Result (Header × List Step) LogFault
with_end n h s = end n (h, s.0) s.1

abbrev with_steps : ℕ → Header → ℕ × List ℕ → Result (Header × List Step) LogFault
with_steps n h c = steps n c.0 c.1 >>= with_end n h

abbrev with_count : ℕ → Header × List ℕ → Result (Header × List Step) LogFault
with_count n h = count n h.1 >>= with_steps n h.0

-- bytes behind the text of a log
late : (bs : List ℕ) (h : Header) (ss : List Step) (b : ℕ) (r : List ℕ) → IsLog h ss → bs ≡ log_text h ss ++ (b ∷ r) → IsWrongAt (length bs - suc (length r)) bs
late bs h ss b r l e =
    let place : length bs - suc (length r) ≡ length (log_text h ss) = place-of bs (log_text h ss) r b (suc (length r)) e refl in
    let never = λ (left : List ℕ) (g : GoesOn (log_text h ss ++ (b ∷ [])) left).
    let s : [] ≡ b ∷ left = same-log g.header g.steps h ss [] (b ∷ left) g.log l (append-nil (log_text g.header g.steps) ∙ g.is ∙ append_assoc (log_text h ss) (b ∷ []) left) in
    let none : ⊥ = cc s in
    none
    in
    record {
      before = log_text h ss;
      byte = b;
      after = r;
      is = e;
      place = place;
      begun = ([], tt, record { header = h; steps = ss; log = l; is = sym (append-nil (log_text h ss)) });
      stops = never;
      told = inr (omega (arith, place, length-log h ss l));
    }

at-end : (bs : List ℕ) (h : Header) (ss : List Step) (r : List ℕ) → IsLog h ss → bs ≡ log_text h ss ++ r → LogOutcome bs (end (length bs) (h, ss) r)
at-end bs h ss [] l e = whole h ss l (e ∙ append-nil (log_text h ss)) refl
at-end bs h ss (b ∷ r) l e = refused (Bad (length bs - suc (length r))) (late bs h ss b r l e) refl

-- a wrong byte within the steps
wrong-step : (bs r : List ℕ) (h : Header) (k back : ℕ) → IsHeader h → k ≤ 1048608 → k < 2 ^ 32 → bs ≡ header_text h ++ (be32 k ++ r) → Wrong (SoMany AreSteps k) step_texts r back → IsWrongAt (length bs - back) bs
wrong-step bs r h k back i few f e w =
    let front = header_text h ++ (be32 k ++ w.before) in
    let joins = λ (y : List ℕ). append_assoc (header_text h) (be32 k ++ w.before) y ∙ ap (λ z. header_text h ++ z) (append_assoc (be32 k) w.before y) in
    let is : bs ≡ front ++ (w.byte ∷ w.after) = e ∙ ap (λ z. header_text h ++ (be32 k ++ z)) w.is ∙ sym (joins (w.byte ∷ w.after)) in
    let cut = cut-steps front w.before h k i few refl w.begun in
    let place : length bs - back ≡ length front = place-of bs front w.after w.byte back is w.place in
    let never = λ (left : List ℕ) (g : GoesOn (front ++ (w.byte ∷ [])) left).
    let s = same-body g.header g.steps h k [] (w.before ++ (w.byte ∷ left)) g.log i f (append-nil (log_text g.header g.steps) ∙ g.is ∙ append_assoc front (w.byte ∷ []) left ∙ joins (w.byte ∷ left)) in
    w.stops g.steps [] left (g.log.steps, s.0) s.1
    in
    record {
      before = front;
      byte = w.byte;
      after = w.after;
      is = is;
      place = place;
      begun = (cut.left, cut.bytes, cut.whole);
      stops = never;
      told = inr (omega (arith, place, length-append (header_text h) (be32 k ++ w.before), length-append (be32 k) w.before, length-be32 k, length-header h i));
    }

at-steps : (bs : List ℕ) (h : Header) (k : ℕ) (r : List ℕ) → IsHeader h → k ≤ 1048608 → k < 2 ^ 32 → bs ≡ header_text h ++ (be32 k ++ r) → AreBytes r → LogOutcome bs (with_steps (length bs) h (k, r))
at-steps bs h k r i few f e ok = go (steps (length bs) k r) (steps-outcome (length bs) k r ok)
  where
    go : (v : Read (List Step)) → Outcome ⊤ (SoMany AreSteps k) step_texts (length bs) r v → LogOutcome bs (v >>= with_end (length bs) h)
    go v (stands ss s g p q) =
        let is : bs ≡ log_text h ss ++ s = e ∙ ap (λ z. header_text h ++ (be32 k ++ z)) p ∙ ap (λ z. header_text h ++ (be32 z ++ (step_texts ss ++ s))) (sym g.1) ∙ sym (log-behind h ss s) in
        let l : IsLog h ss = record { header = i; steps = g.0; few = subst (λ z. z ≤ 1048608) (sym g.1) few } in
        moved bs (v >>= with_end (length bs) h) (end (length bs) (h, ss) s) (ap (λ z. z >>= with_end (length bs) h) q) (at-end bs h ss s l is)
    go v (short c q) = refused (Short (length bs)) (refl, inl (cut-steps bs r h k i few e c)) (ap (λ z. z >>= with_end (length bs) h) q)
    go v (wrong m back w q) = refused (Bad (length bs - back)) (wrong-step bs r h k back i few f e w) (ap (λ z. z >>= with_end (length bs) h) q)

abbrev checked : ℕ × List ℕ → Read ℕ
checked c = cond (leb c.0 1048608) (Ok c) (Err (TooLong c.0))

-- the bytes end behind a header
cut-behind : (bs : List ℕ) (h : Header) → IsHeader h → bs ≡ header_text h ++ [] → IsCutLog bs
cut-behind bs h i e =
    let none = be32 0 ++ [] in
    record {
      left = none;
      some = omega (arith, length-append (be32 0) [], length-be32 0);
      bytes = bytes-append (be32 0) [] bytes-none_32 tt;
      whole = record { header = h; steps = []; log = record { header = i; steps = tt; few = omega arith }; is = ap (λ z. z ++ none) (sym (e ∙ append-nil (header_text h))) };
    }

-- the bytes end within the number of steps: more make of it a number in range, or one that is too great
cut-number : (bs : List ℕ) (h : Header) (b : ℕ) (r : List ℕ) → IsHeader h → bs ≡ header_text h ++ (b ∷ r) → Cut Fits_4 be32 (b ∷ r) → IsCutLog bs ⊎ EndsInCount bs
cut-number bs h b r i e c = go (leb c.thing 1048608) refl
  where
    is : header_text h ++ be32 c.thing ≡ bs ++ c.left
    is = ap (λ z. header_text h ++ z) c.is ∙ sym (append_assoc (header_text h) (b ∷ r) c.left) ∙ ap (λ z. z ++ c.left) (sym e)

    go : (t : Bool) → leb c.thing 1048608 ≡ t → IsCutLog bs ⊎ EndsInCount bs
    go true d =
        let k = blank-steps c.thing in
        let more = step_texts k.all in
        let few : c.thing ≤ 1048608 = leb-true c.thing 1048608 d in
        let whole : log_text h k.all ≡ bs ++ (c.left ++ more) =
        ap (λ z. header_text h ++ (be32 z ++ more)) k.number ∙ sym (append_assoc (header_text h) (be32 c.thing) more) ∙ ap (λ z. z ++ more) is ∙ append_assoc bs c.left more in
        let l : IsLog h k.all = record { header = i; steps = k.are; few = subst (λ z. z ≤ 1048608) (sym k.number) few } in
        inl (record {
          left = c.left ++ more;
          some = omega (arith, c.some, length-append c.left more);
          bytes = bytes-append c.left more c.bytes k.bytes;
          whole = record { header = h; steps = k.all; log = l; is = whole };
        })
    go false d = inr (record {
      header = h;
      fine = i;
      number = c.thing;
      great = leb-false c.thing 1048608 d;
      fits = c.fine;
      left = c.left;
      some = c.some;
      few = omega (arith, ap length c.is, length-be32 c.thing, length-append (b ∷ r) c.left);
      is = is;
    })

-- a number of steps
at-number : (bs : List ℕ) (h : Header) (k : ℕ) (s : List ℕ) → IsHeader h → k < 2 ^ 32 → bs ≡ header_text h ++ (be32 k ++ s) → AreBytes s
    → (t : Bool) → leb k 1048608 ≡ t → LogOutcome bs (cond {A = Read ℕ} t (Ok (k, s)) (Err (TooLong k)) >>= with_steps (length bs) h)
at-number bs h k s i f is ok true d = at-steps bs h k s i (leb-true k 1048608 d) f is ok
at-number bs h k s i f is ok false d =
    let c : HasCount k bs = record { header = h; fine = i; after = s; is = is; great = leb-false k 1048608 d; fits = f } in
    refused (TooLong k) c refl

at-count : (bs : List ℕ) (h : Header) (r : List ℕ) → IsHeader h → bs ≡ header_text h ++ r → AreBytes r → LogOutcome bs (with_count (length bs) (h, r))
at-count bs h [] i e ok = refused (Short (length bs)) (refl, inl (cut-behind bs h i e)) refl
at-count bs h (b ∷ r) i e ok = go (number_of_4 (length bs) (b ∷ r)) (number-4-outcome ⊥ (length bs) (b ∷ r) ok)
  where
    go : (v : Read ℕ) → Outcome ⊥ Fits_4 be32 (length bs) (b ∷ r) v → LogOutcome bs (v >>= checked >>= with_steps (length bs) h)
    go v (stands k s f p q) =
        let is : bs ≡ header_text h ++ (be32 k ++ s) = e ∙ ap (λ z. header_text h ++ z) p in
        moved bs (v >>= checked >>= with_steps (length bs) h) (checked (k, s) >>= with_steps (length bs) h) (ap (λ z. z >>= checked >>= with_steps (length bs) h) q)
        (at-number bs h k s i f is (bytes-rest (be32 k) s (subst AreBytes p ok)) (leb k 1048608) refl)
    go v (short c q) = refused (Short (length bs)) (refl, cut-number bs h b r i e c) (ap (λ z. z >>= checked >>= with_steps (length bs) h) q)
    go v (wrong m back w q) = absurd m

at-header : (bs r : List ℕ) → bs ≡ codes "RHOLOG" ++ (1 ∷ r) → AreBytes r → LogOutcome bs (header (length bs) r >>= with_count (length bs))
at-header bs r e ok = go (header (length bs) r) (header-outcome (length bs) r ok)
  where
    go : (v : Read Header) → Outcome ⊥ IsHeader header_rest (length bs) r v → LogOutcome bs (v >>= with_count (length bs))
    go v (stands h s i p q) =
        let is : bs ≡ header_text h ++ s = e ∙ ap (λ z. codes "RHOLOG" ++ (1 ∷ z)) p in
        moved bs (v >>= with_count (length bs)) (with_count (length bs) (h, s)) (ap (λ z. z >>= with_count (length bs)) q) (at-count bs h s i is (bytes-rest (header_rest h) s (subst AreBytes p ok)))
    go v (short c q) =
        let is : header_text c.thing ≡ bs ++ c.left = ap (λ z. codes "RHOLOG" ++ (1 ∷ z)) c.is ∙ ap (λ z. z ++ c.left) (sym e) in
        refused (Short (length bs)) (refl, inl (cut-header bs c.left c.thing c.fine c.some c.bytes is)) (ap (λ z. z >>= with_count (length bs)) q)
    go v (wrong m back w q) = absurd m

-- the text of a header of zeros behind its name
blank_rest : List ℕ
blank_rest = 1 ∷ header_rest blank_header

bytes-blank_rest : AreBytes blank_rest
unfolding blank_rest
bytes-blank_rest = (omega arith, bytes-blank_header)

is-blank_text : header_text blank_header ≡ codes "RHOLOG" ++ blank_rest
unfolding blank_rest
is-blank_text = refl

some-blank_rest : 1 ≤ length blank_rest
unfolding blank_rest
some-blank_rest = omega arith

at-version : (bs r : List ℕ) → bs ≡ codes "RHOLOG" ++ r → AreBytes r → LogOutcome bs (version (length bs) r >>= header (length bs) >>= with_count (length bs))
at-version bs [] e ok =
    let is : header_text blank_header ≡ bs ++ blank_rest = is-blank_text ∙ ap (λ z. z ++ blank_rest) (sym e) in
    refused (Short (length bs)) (refl, inl (cut-header bs blank_rest blank_header is-blank_header some-blank_rest bytes-blank_rest is)) refl
at-version bs (b ∷ r) e ok = go (eqb b 1) refl
  where
    go : (c : Bool) → eqb b 1 ≡ c → LogOutcome bs (cond {A = Result (List ℕ) LogFault} c (Ok r) (Err (Version b)) >>= header (length bs) >>= with_count (length bs))
    go true d = at-header bs r (e ∙ ap (λ z. codes "RHOLOG" ++ (z ∷ r)) (eqb-true b 1 d)) ok.1
    go false d =
        let c : HasVersion b bs = record { after = r; is = e; other = eqb-false b 1 d } in
        refused (Version b) c refl

-- what comes of the name's bytes that are still to come
data Named (n : ℕ) (ws bs : List ℕ) (v : Result (List ℕ) LogFault) : Type 0 where
  spelled : (r : List ℕ) → bs ≡ ws ++ r → v ≡ Ok r → Named n ws bs v
  broken : (left : List ℕ) → 1 ≤ length left → ws ≡ bs ++ left → v ≡ Err (Short n) → Named n ws bs v
  astray : (before after more : List ℕ) (byte w : ℕ) → bs ≡ before ++ (byte ∷ after) → ws ≡ before ++ (w ∷ more) → (byte ≡ w → ⊥) → v ≡ Err (Bad (n - suc (length after))) → Named n ws bs v

named : (n : ℕ) (ws bs : List ℕ) → Named n ws bs (name n ws bs)
named n [] bs = spelled bs refl refl
named n (w ∷ ws) [] = broken (w ∷ ws) (omega arith) refl refl
named n (w ∷ ws) (b ∷ bs) = go (eqb b w) refl (named n ws bs)
  where
    go : (c : Bool) → eqb b w ≡ c → Named n ws bs (name n ws bs) → Named n (w ∷ ws) (b ∷ bs) (cond {A = Result (List ℕ) LogFault} c (name n ws bs) (Err (Bad (n - length (b ∷ bs)))))
    go true d (spelled r e q) =
        let s : b ≡ w = eqb-true b w d in
        let i : b ∷ bs ≡ w ∷ (ws ++ r) = cc (s, e) in
        spelled r i q
    go true d (broken left m e q) =
        let s : b ≡ w = eqb-true b w d in
        let i : w ∷ ws ≡ b ∷ (bs ++ left) = cc (s, e) in
        broken left m i q
    go true d (astray before after more byte u e f never q) =
        let s : b ≡ w = eqb-true b w d in
        let i : w ∷ ws ≡ b ∷ (before ++ (u ∷ more)) = cc (s, f) in
        astray (b ∷ before) after more byte u (ap (λ z. b ∷ z) e) i never q
    go false d o = astray [] bs ws b w refl refl (eqb-false b w d) refl

bytes-name : AreBytes (codes "RHOLOG")
bytes-name = (omega arith, (omega arith, (omega arith, (omega arith, (omega arith, (omega arith, tt))))))

-- bytes that end within the name
pub cut-name : (bs left : List ℕ) → codes "RHOLOG" ≡ bs ++ left → IsCutLog bs
cut-name bs left e =
    let bytes : AreBytes left = bytes-rest bs left (subst AreBytes e bytes-name) in
    let is : header_text blank_header ≡ bs ++ (left ++ blank_rest) = is-blank_text ∙ ap (λ z. z ++ blank_rest) e ∙ append_assoc bs left blank_rest in
    cut-header bs (left ++ blank_rest) blank_header is-blank_header (omega (arith, some-blank_rest, length-append left blank_rest)) (bytes-append left blank_rest bytes bytes-blank_rest) is

-- what follows the name in the text of a log
behind-name : Header → List Step → List ℕ
behind-name h ss = (1 ∷ header_rest h) ++ (be32 (length ss) ++ step_texts ss)

is-named : (h : Header) (ss : List Step) → log_text h ss ≡ codes "RHOLOG" ++ behind-name h ss
unfolding behind-name
is-named h ss = refl

-- a wrong byte of the name
wrong-name : (bs before after more : List ℕ) (byte w : ℕ) → bs ≡ before ++ (byte ∷ after) → codes "RHOLOG" ≡ before ++ (w ∷ more) → (byte ≡ w → ⊥) → IsWrongAt (length bs - suc (length after)) bs
wrong-name bs before after more byte w e f never =
    let cut = cut-name before (w ∷ more) f in
    let place : length bs - suc (length after) ≡ length before = place-of bs before after byte (suc (length after)) e refl in
    let stop = λ (left : List ℕ) (g : GoesOn (before ++ (byte ∷ [])) left).
    let t = behind-name g.header g.steps in
    let s : before ++ (w ∷ (more ++ t)) ≡ before ++ (byte ∷ left) =
    sym (append_assoc before (w ∷ more) t) ∙ ap (λ z. z ++ t) (sym f) ∙ sym (is-named g.header g.steps) ∙ g.is ∙ append_assoc before (byte ∷ []) left in
    let u : w ∷ (more ++ t) ≡ byte ∷ left = (same-front before before (w ∷ (more ++ t)) (byte ∷ left) refl s).1 in
    let one : byte ≡ w = cc u in
    never one
    in
    record {
      before = before;
      byte = byte;
      after = after;
      is = e;
      place = place;
      begun = (cut.left, cut.bytes, cut.whole);
      stops = stop;
      told = inl (omega (arith, place, ap length f, length-append before (w ∷ more)));
    }

at-name : (bs : List ℕ) → AreBytes bs → LogOutcome bs (log_in (length bs) bs)
at-name bs ok = go (name (length bs) (codes "RHOLOG") bs) (named (length bs) (codes "RHOLOG") bs)
  where
    go : (v : Result (List ℕ) LogFault) → Named (length bs) (codes "RHOLOG") bs v → LogOutcome bs (v >>= version (length bs) >>= header (length bs) >>= with_count (length bs))
    go v (spelled r e q) =
        moved bs (v >>= version (length bs) >>= header (length bs) >>= with_count (length bs)) (version (length bs) r >>= header (length bs) >>= with_count (length bs))
        (ap (λ z. z >>= version (length bs) >>= header (length bs) >>= with_count (length bs)) q)
        (at-version bs r e (bytes-rest (codes "RHOLOG") r (subst AreBytes e ok)))
    go v (broken left s e q) = refused (Short (length bs)) (refl, inl (cut-name bs left e)) (ap (λ z. z >>= version (length bs) >>= header (length bs) >>= with_count (length bs)) q)
    go v (astray before after more byte w e f never q) =
        refused (Bad (length bs - suc (length after))) (wrong-name bs before after more byte w e f never) (ap (λ z. z >>= version (length bs) >>= header (length bs) >>= with_count (length bs)) q)

pub log-outcome : (bs : List ℕ) → AreBytes bs → LogOutcome bs (log_of bs)
log-outcome bs ok = moved bs (log_of bs) (log_in (length bs) bs) (opened bs) (at-name bs ok)

-- a result is not both a log and a fault, and has one fault
no-log : {A : Type 0} (y : A) (e : LogFault) → (let r : Result A LogFault = Ok y in r) ≡ Err e → ⊥
no-log y e q = cc q

one-fault : {A : Type 0} (e f : LogFault) → (let r : Result A LogFault = Err e in r) ≡ Err f → e ≡ f
one-fault e f q = cc q

pub refusals_have_causes : RefusalsHaveCauses
refusals_have_causes bs e ok q = go (log-outcome bs ok)
  where
    go : LogOutcome bs (log_of bs) → IsCause bs e
    go (whole h ss l i t) = absurd (no-log (h, ss) e (sym t ∙ q))
    go (refused f c t) = subst (IsCause bs) (one-fault f e (sym t ∙ q)) c

one-log : (p q : Header × List Step) → (let r : Result (Header × List Step) LogFault = Ok p in r) ≡ Ok q → p ≡ q
one-log p q e = cc e

pub only_logs_are_read : OnlyLogsAreRead
only_logs_are_read bs h ss ok q = go (log-outcome bs ok)
  where
    go : LogOutcome bs (log_of bs) → IsLog h ss × (bs ≡ log_text h ss)
    go (whole g ts l i t) =
        let e : (g, ts) ≡ (h, ss) = one-log (g, ts) (h, ss) (sym t ∙ q) in
        subst (λ (p : Header × List Step). IsLog p.0 p.1 × (bs ≡ log_text p.0 p.1)) e (l, i)
    go (refused f c t) = absurd (no-log (h, ss) f (sym q ∙ t))
