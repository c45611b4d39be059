-- What is read was written so.
use Rattle.std.proofs.Common.{◌≡◌, ◌≤◌, ◌<◌, ℕ, zero, suc, ◌-◌, ◌^◌, Bool, true, false, cond, ◌&&◌, List, [], ◌∷◌, ◌++◌, length, get_or, map as each, refl, ap, sym, ◌∙◌, subst, arith, append_assoc}
use Rattle.std.specs.Prelude.{Result, Ok, Err, leb, eqb, take, drop, codes}
use Rattle.std.specs.Int.{w32, w64, from_be_bytes, to_be_bytes}
use Rattle.std.proofs.lemmas.Bool.{eqb-true, leb-true}
use Rattle.std.proofs.lemmas.Nat.{be_bytes_4, be_bytes_8}
use Rattle.calculus.specs.Bytes.{be32, be64, joined}
use Rattle.calculus.proofs.BytesLemmas.{to_be_bytes-be32, to_be_bytes-be64}
use Rattle.calculus.specs.Log.{Header, Step, step_text, log_text}
use Rattle.event_log.specs.declared.fault.LogFault.{LogFault}
use Rattle.event_log.specs.declared.fault.LogFault.TheVariants.{Short, Bad, Version, TooLong}
use Rattle.event_log.specs.Reading.{◌>>=◌, Read, field, number_of_4, number_of_8, name, version, header, count, data_count, data_ids, step, steps, repeated, end, log_of}
use Rattle.event_log.specs.Laws.{AreBytes, HaveSmallRepeats, OnlyTextsAreRead}

-- what a thing that is read came from
pub bind-inv : {A B : Type 0} (x : Result A LogFault) (f : A → Result B LogFault) (y : B) → (x >>= f) ≡ Ok y → (v : A) × (x ≡ Ok v) × (f v ≡ Ok y)
bind-inv (Ok v) f y e = (v, refl, e)
bind-inv (Err g) f y e = cc e

inside : {A : Type 0} (p q : A) → (let r : Result A LogFault = Ok p in r) ≡ Ok q → p ≡ q
inside p q e = cc e

take-drop : (k : ℕ) (bs : List ℕ) → bs ≡ take k bs ++ drop k bs
take-drop zero bs = refl
take-drop (suc k) [] = refl
take-drop (suc k) (b ∷ bs) = ap (λ l. b ∷ l) (take-drop k bs)

take-length : (k : ℕ) (bs : List ℕ) → k ≤ length bs → length (take k bs) ≡ k
take-length zero bs h = refl
take-length (suc k) [] h = absurd (omega (arith, h))
take-length (suc k) (b ∷ bs) h = ap suc (take-length k bs (omega (arith, h)))

pub record Field (k : ℕ) (bs a r : List ℕ) : Type 0 where
  pub is : bs ≡ a ++ r
  pub len : length a ≡ k

field-inv : (n k : ℕ) (bs a r : List ℕ) → field n k bs ≡ Ok (a, r) → Field k bs a r
field-inv n k bs a r e = go (leb k (length bs)) refl e
  where
    go : (b : Bool) → leb k (length bs) ≡ b → cond {A = Read (List ℕ)} b (Ok (take k bs, drop k bs)) (Err (Short n)) ≡ Ok (a, r) → Field k bs a r
    go true d e =
        let both = inside (take k bs, drop k bs) (a, r) e in
        let first : take k bs ≡ a = ap (λ z. z.0) both in
        let rest : drop k bs ≡ r = ap (λ z. z.1) both in
        record { is = take-drop k bs ∙ cc (first, rest); len = sym (ap length first) ∙ take-length k bs (leb-true k (length bs) d) }
    go false d e = cc e

bytes-first : (a r : List ℕ) → AreBytes (a ++ r) → AreBytes a
bytes-first [] r h = tt
bytes-first (b ∷ a) r h = (h.0, bytes-first a r h.1)

bytes-rest : (a r : List ℕ) → AreBytes (a ++ r) → AreBytes r
bytes-rest [] r h = h
bytes-rest (b ∷ a) r h = bytes-rest a r h.1

bytes-at : (a : List ℕ) → AreBytes a → (i : ℕ) → get_or a i 0 < 256
bytes-at [] h i = omega arith
bytes-at (b ∷ a) h zero = h.0
bytes-at (b ∷ a) h (suc i) = bytes-at a h.1 i

left-of : (bs a r : List ℕ) → bs ≡ a ++ r → AreBytes bs → AreBytes r
left-of bs a r e h = bytes-rest a r (subst AreBytes e h)

number-4-inv : (n m : ℕ) (bs r : List ℕ) → AreBytes bs → m < 2 ^ 32 → number_of_4 n bs ≡ Ok (m, r) → bs ≡ be32 m ++ r
number-4-inv n m bs r h k e =
    let v = bind-inv (field n 4 bs) (λ x. Ok (from_be_bytes w32 x.0, x.1)) (m, r) e in
    let f = field-inv n 4 bs v.0.0 v.0.1 v.1 in
    let both = inside (from_be_bytes w32 v.0.0, v.0.1) (m, r) v.2 in
    let value : from_be_bytes w32 v.0.0 ≡ m = ap (λ z. z.0) both in
    let rest : v.0.1 ≡ r = ap (λ z. z.1) both in
    let same : to_be_bytes w32 m ≡ v.0.0 = be_bytes_4 v.0.0 m f.len (bytes-at v.0.0 (bytes-first v.0.0 v.0.1 (subst AreBytes f.is h))) (sym value) in
    f.is ∙ cc (rest, sym (to_be_bytes-be32 m k) ∙ same)

number-8-inv : (n m : ℕ) (bs r : List ℕ) → AreBytes bs → m < 2 ^ 64 → number_of_8 n bs ≡ Ok (m, r) → bs ≡ be64 m ++ r
number-8-inv n m bs r h k e =
    let v = bind-inv (field n 8 bs) (λ x. Ok (from_be_bytes w64 x.0, x.1)) (m, r) e in
    let f = field-inv n 8 bs v.0.0 v.0.1 v.1 in
    let both = inside (from_be_bytes w64 v.0.0, v.0.1) (m, r) v.2 in
    let value : from_be_bytes w64 v.0.0 ≡ m = ap (λ z. z.0) both in
    let rest : v.0.1 ≡ r = ap (λ z. z.1) both in
    let same : to_be_bytes w64 m ≡ v.0.0 = be_bytes_8 v.0.0 m f.len (bytes-at v.0.0 (bytes-first v.0.0 v.0.1 (subst AreBytes f.is h))) (sym value) in
    f.is ∙ cc (rest, sym (to_be_bytes-be64 m k) ∙ same)

name-inv : (n : ℕ) (ws bs r : List ℕ) → name n ws bs ≡ Ok r → bs ≡ ws ++ r
name-inv n [] bs r e = cc e
name-inv n (w ∷ ws) [] r e = cc e
name-inv n (w ∷ ws) (b ∷ bs) r e = go (name-inv n ws bs r) (eqb b w) refl e
  where
    go : (name n ws bs ≡ Ok r → bs ≡ ws ++ r) → (c : Bool) → eqb b w ≡ c → cond {A = Result (List ℕ) LogFault} c (name n ws bs) (Err (Bad (n - length (b ∷ bs)))) ≡ Ok r → b ∷ bs ≡ w ∷ ws ++ r
    go next true d e = cc (eqb-true b w d, next e)
    go next false d e = cc e

version-inv : (n : ℕ) (bs r : List ℕ) → version n bs ≡ Ok r → bs ≡ 1 ∷ r
version-inv n [] r e = cc e
version-inv n (b ∷ bs) r e = go (eqb b 1) refl e
  where
    go : (c : Bool) → eqb b 1 ≡ c → cond {A = Result (List ℕ) LogFault} c (Ok bs) (Err (Version b)) ≡ Ok r → b ∷ bs ≡ 1 ∷ r
    go true d e = cc (eqb-true b 1 d, e)
    go false d e = cc e

-- a header that was read
header-inv : (n : ℕ) (bs r : List ℕ) (h : Header) → AreBytes bs → h.limit < 2 ^ 64 → header n bs ≡ Ok (h, r) → bs ≡ (h.base ++ (h.source ++ (h.prices ++ be64 h.limit))) ++ r
header-inv n bs r h ok k e =
    let a = bind-inv (field n 32 bs) _ (h, r) e in
    let fa = field-inv n 32 bs a.0.0 a.0.1 a.1 in
    let b = bind-inv (field n 32 a.0.1) _ (h, r) a.2 in
    let fb = field-inv n 32 a.0.1 b.0.0 b.0.1 b.1 in
    let c = bind-inv (field n 32 b.0.1) _ (h, r) b.2 in
    let fc = field-inv n 32 b.0.1 c.0.0 c.0.1 c.1 in
    let d = bind-inv (number_of_8 n c.0.1) _ (h, r) c.2 in
    let made = inside (record { base = a.0.0; source = b.0.0; prices = c.0.0; limit = d.0.0 }, d.0.1) (h, r) d.2 in
    let head : record { base = a.0.0; source = b.0.0; prices = c.0.0; limit = d.0.0 } ≡ h = ap (λ z. z.0) made in
    let base : a.0.0 ≡ h.base = ap (λ (x : Header). x.base) head in
    let source : b.0.0 ≡ h.source = ap (λ (x : Header). x.source) head in
    let prices : c.0.0 ≡ h.prices = ap (λ (x : Header). x.prices) head in
    let limit : d.0.0 ≡ h.limit = ap (λ (x : Header). x.limit) head in
    let rest : d.0.1 ≡ r = ap (λ z. z.1) made in
    let okd : AreBytes c.0.1 = left-of b.0.1 c.0.0 c.0.1 fc.is (left-of a.0.1 b.0.0 b.0.1 fb.is (left-of bs a.0.0 a.0.1 fa.is ok)) in
    let last : c.0.1 ≡ be64 h.limit ++ r = cc (number-8-inv n d.0.0 c.0.1 d.0.1 okd (subst (λ x. x < 2 ^ 64) (sym limit) k) d.1, limit, rest) in
    let end3 : b.0.1 ≡ (h.prices ++ be64 h.limit) ++ r = cc (fc.is, last, prices, append_assoc h.prices (be64 h.limit) r) in
    let end2 : a.0.1 ≡ (h.source ++ (h.prices ++ be64 h.limit)) ++ r = cc (fb.is, end3, source, append_assoc h.source (h.prices ++ be64 h.limit) r) in
    cc (fa.is, end2, base, append_assoc h.base (h.source ++ (h.prices ++ be64 h.limit)) r)

data-count-inv : (n k : ℕ) (bs r : List ℕ) → data_count n bs ≡ Ok (k, r) → bs ≡ k ∷ r
data-count-inv n k [] r e = cc e
data-count-inv n k (b ∷ bs) r e = go (leb 1 b && leb b 16) e
  where
    go : (c : Bool) → cond {A = Read ℕ} c (Ok (b, bs)) (Err (Bad (n - length (b ∷ bs)))) ≡ Ok (k, r) → b ∷ bs ≡ k ∷ r
    go true e = let both = inside (b, bs) (k, r) e in cc (ap (λ z. z.0) both, ap (λ z. z.1) both)
    go false e = cc e

-- ids that were read
pub record Ids (k : ℕ) (bs : List ℕ) (xs : List (List ℕ)) (r : List ℕ) : Type 0 where
  pub is : bs ≡ joined xs ++ r
  pub number : length xs ≡ k

ids-inv : (n k : ℕ) (bs : List ℕ) (xs : List (List ℕ)) (r : List ℕ) → data_ids n k bs ≡ Ok (xs, r) → Ids k bs xs r
ids-inv n zero bs xs r e =
    let both = inside ([], bs) (xs, r) e in
    let none : [] ≡ xs = ap (λ z. z.0) both in
    let rest : bs ≡ r = ap (λ z. z.1) both in
    subst (λ l. Ids 0 bs l r) none (record { is = rest; number = refl })
ids-inv n (suc k) bs xs r e =
    let a = bind-inv (field n 32 bs) _ (xs, r) e in
    let f = field-inv n 32 bs a.0.0 a.0.1 a.1 in
    let b = bind-inv (repeated (field n 32) k a.0.1) _ (xs, r) a.2 in
    let h = ids-inv n k a.0.1 b.0.0 b.0.1 b.1 in
    let both = inside (a.0.0 ∷ b.0.0, b.0.1) (xs, r) b.2 in
    let all : a.0.0 ∷ b.0.0 ≡ xs = ap (λ z. z.0) both in
    let rest : b.0.1 ≡ r = ap (λ z. z.1) both in
    subst (λ l. Ids (suc k) bs l r) all (record { is = cc (f.is, h.is, rest, append_assoc a.0.0 (joined b.0.0) r); number = ap suc h.number })

-- a step that was read
step-inv : (n : ℕ) (bs r : List ℕ) (s : Step) → AreBytes bs → s.repeat < 2 ^ 32 → step n bs ≡ Ok (s, r) → bs ≡ step_text s ++ r
step-inv n bs r s ok k e =
    let a = bind-inv (field n 32 bs) _ (s, r) e in
    let fa = field-inv n 32 bs a.0.0 a.0.1 a.1 in
    let b = bind-inv (data_count n a.0.1) _ (s, r) a.2 in
    let fb = data-count-inv n b.0.0 a.0.1 b.0.1 b.1 in
    let c = bind-inv (data_ids n b.0.0 b.0.1) _ (s, r) b.2 in
    let fc = ids-inv n b.0.0 b.0.1 c.0.0 c.0.1 c.1 in
    let d = bind-inv (number_of_4 n c.0.1) _ (s, r) c.2 in
    let made = inside (record { receiver = a.0.0; data_ids = c.0.0; repeat = d.0.0 }, d.0.1) (s, r) d.2 in
    let whole : record { receiver = a.0.0; data_ids = c.0.0; repeat = d.0.0 } ≡ s = ap (λ z. z.0) made in
    let receiver : a.0.0 ≡ s.receiver = ap (λ (x : Step). x.receiver) whole in
    let data_of : c.0.0 ≡ s.data_ids = ap (λ (x : Step). x.data_ids) whole in
    let repeat : d.0.0 ≡ s.repeat = ap (λ (x : Step). x.repeat) whole in
    let rest : d.0.1 ≡ r = ap (λ z. z.1) made in
    let oka : AreBytes a.0.1 = left-of bs a.0.0 a.0.1 fa.is ok in
    let okb : AreBytes b.0.1 = left-of a.0.1 (b.0.0 ∷ []) b.0.1 fb oka in
    let okc : AreBytes c.0.1 = left-of b.0.1 (joined c.0.0) c.0.1 fc.is okb in
    let last : c.0.1 ≡ be32 s.repeat ++ r = cc (number-4-inv n d.0.0 c.0.1 d.0.1 okc (subst (λ x. x < 2 ^ 32) (sym repeat) k) d.1, repeat, rest) in
    let end3 : b.0.1 ≡ (joined s.data_ids ++ be32 s.repeat) ++ r = cc (fc.is, last, data_of, append_assoc (joined s.data_ids) (be32 s.repeat) r) in
    let number : b.0.0 ≡ length s.data_ids = sym fc.number ∙ ap length data_of in
    let end2 : a.0.1 ≡ (length s.data_ids ∷ (joined s.data_ids ++ be32 s.repeat)) ++ r = cc (fb, end3, number) in
    cc (fa.is, end2, receiver, append_assoc s.receiver (length s.data_ids ∷ (joined s.data_ids ++ be32 s.repeat)) r)

-- steps that were read
pub record Steps (k : ℕ) (bs : List ℕ) (ss : List Step) (r : List ℕ) : Type 0 where
  pub is : bs ≡ joined (each step_text ss) ++ r
  pub number : length ss ≡ k

steps-inv : (n k : ℕ) (bs : List ℕ) (ss : List Step) (r : List ℕ) → AreBytes bs → HaveSmallRepeats ss → steps n k bs ≡ Ok (ss, r) → Steps k bs ss r
steps-inv n zero bs ss r ok h e =
    let both = inside ([], bs) (ss, r) e in
    let none : [] ≡ ss = ap (λ z. z.0) both in
    let rest : bs ≡ r = ap (λ z. z.1) both in
    subst (λ l. Steps 0 bs l r) none (record { is = rest; number = refl })
steps-inv n (suc k) bs ss r ok h e =
    let a = bind-inv (step n bs) _ (ss, r) e in
    let b = bind-inv (repeated (step n) k a.0.1) _ (ss, r) a.2 in
    let both = inside (a.0.0 ∷ b.0.0, b.0.1) (ss, r) b.2 in
    let all : a.0.0 ∷ b.0.0 ≡ ss = ap (λ z. z.0) both in
    let rest : b.0.1 ≡ r = ap (λ z. z.1) both in
    let small : HaveSmallRepeats (a.0.0 ∷ b.0.0) = subst HaveSmallRepeats (sym all) h in
    let f : bs ≡ step_text a.0.0 ++ a.0.1 = step-inv n bs a.0.1 a.0.0 ok small.0 a.1 in
    let g = steps-inv n k a.0.1 b.0.0 b.0.1 (left-of bs (step_text a.0.0) a.0.1 f ok) small.1 b.1 in
    subst (λ l. Steps (suc k) bs l r) all (record { is = cc (f, g.is, rest, append_assoc (step_text a.0.0) (joined (each step_text b.0.0)) r); number = ap suc g.number })

count-inv : (n k : ℕ) (bs r : List ℕ) → AreBytes bs → count n bs ≡ Ok (k, r) → bs ≡ be32 k ++ r
count-inv n k bs r ok e =
    let a = bind-inv (number_of_4 n bs) _ (k, r) e in
    go a.0 a.1 (leb a.0.0 1048608) refl a.2
  where
    go : (v : ℕ × List ℕ) → number_of_4 n bs ≡ Ok v → (b : Bool) → leb v.0 1048608 ≡ b → cond {A = Read ℕ} b (Ok v) (Err (TooLong v.0)) ≡ Ok (k, r) → bs ≡ be32 k ++ r
    go v d true f e =
        let same : v ≡ (k, r) = inside v (k, r) e in
        let few : v.0 ≤ 1048608 = leb-true v.0 1048608 f in
        number-4-inv n v.0 bs v.1 ok (omega (arith, few)) d ∙ cc (ap (λ z. z.0) same, ap (λ z. z.1) same)
    go v d false f e = cc e

end-inv : {A : Type 0} (n : ℕ) (x y : A) (bs : List ℕ) → end n x bs ≡ Ok y → (bs ≡ []) × (x ≡ y)
end-inv n x y [] e = (refl, inside x y e)
end-inv n x y (b ∷ bs) e = cc e

ends : (l : List ℕ) → l ++ [] ≡ l
ends [] = refl
ends (x ∷ l) = ap (λ m. x ∷ m) (ends l)

pub only_texts_are_read : OnlyTextsAreRead
unfolding log_of
only_texts_are_read bytes h ss ok limit small e =
    let n : ℕ = length bytes in
    let c = bind-inv (name n (codes "RHOLOG") bytes >>= version n >>= header n) _ (h, ss) e in
    let b = bind-inv (name n (codes "RHOLOG") bytes >>= version n) (header n) c.0 c.1 in
    let a = bind-inv (name n (codes "RHOLOG") bytes) (version n) b.0 b.1 in
    let named : bytes ≡ codes "RHOLOG" ++ a.0 = name-inv n (codes "RHOLOG") bytes a.0 a.1 in
    let versioned : a.0 ≡ 1 ∷ b.0 = version-inv n a.0 b.0 a.2 in
    let d = bind-inv (count n c.0.1) _ (h, ss) c.2 in
    let f = bind-inv (steps n d.0.0 d.0.1) _ (h, ss) d.2 in
    let g = end-inv n (c.0.0, f.0.0) (h, ss) f.0.1 f.2 in
    let head : c.0.0 ≡ h = ap (λ z. z.0) g.1 in
    let all : f.0.0 ≡ ss = ap (λ z. z.1) g.1 in
    let oka : AreBytes a.0 = left-of bytes (codes "RHOLOG") a.0 named ok in
    let okb : AreBytes b.0 = left-of a.0 (1 ∷ []) b.0 versioned oka in
    let headed = header-inv n b.0 c.0.1 c.0.0 okb (subst (λ x. x.limit < 2 ^ 64) (sym head) limit) b.2 in
    let okc : AreBytes c.0.1 = left-of b.0 (c.0.0.base ++ (c.0.0.source ++ (c.0.0.prices ++ be64 c.0.0.limit))) c.0.1 headed okb in
    let counted = count-inv n d.0.0 c.0.1 d.0.1 okc d.1 in
    let stepped = steps-inv n d.0.0 d.0.1 f.0.0 f.0.1 (left-of c.0.1 (be32 d.0.0) d.0.1 counted okc) (subst HaveSmallRepeats (sym all) small) f.1 in
    let whole_steps : d.0.1 ≡ joined (each step_text f.0.0) = stepped.is ∙ ap (λ l. joined (each step_text f.0.0) ++ l) g.0 ∙ ends (joined (each step_text f.0.0)) in
    named ∙ ap (λ l. codes "RHOLOG" ++ l) (versioned ∙ ap (λ l. 1 ∷ l) (headed ∙ ap (λ l. (c.0.0.base ++ (c.0.0.source ++ (c.0.0.prices ++ be64 c.0.0.limit))) ++ l) (counted ∙ cc (sym stepped.number, whole_steps))))
    ∙ ap (λ x. log_text x f.0.0) head ∙ ap (log_text h) all
