-- What comes of reading a thing, told by the texts of such things: one stands there, or the bytes end within its text, or they have a byte that none goes on with.
use Rattle.std.proofs.Common.{◌≡◌, ◌≤◌, ℕ, zero, suc, ◌-◌, List, [], ◌∷◌, ◌++◌, length, replicate, refl, ap, sym, ◌∙◌, subst, arith, append_assoc, length-append}
use Rattle.std.specs.Prelude.{Ok, Err}
use Rattle.std.proofs.lemmas.List.{length-replicate}
use Rattle.event_log.specs.declared.fault.LogFault.TheVariants.{Short, Bad}
use Rattle.event_log.specs.Reading.{◌>>=◌, Read, repeated}
use Rattle.event_log.specs.Laws.{AreBytes}
use Rattle.log_laws.proofs.Lists.{bytes-append, bytes-rest}

-- with more bytes, one at least, these are the text of such a thing
pub record Cut {A : Type 0} (Is : A → Type 0) (text : A → List ℕ) (bs : List ℕ) : Type 0 where
  pub thing : A
  pub fine : Is thing
  pub left : List ℕ
  pub some : 1 ≤ length left
  pub bytes : AreBytes left
  pub is : text thing ≡ bs ++ left

-- such a text begins with the bytes before one, and none with those and that one, whatever follows it; `back` bytes are left there
pub record Wrong {A : Type 0} (Is : A → Type 0) (text : A → List ℕ) (bs : List ℕ) (back : ℕ) : Type 0 where
  pub before : List ℕ
  pub byte : ℕ
  pub after : List ℕ
  pub is : bs ≡ before ++ (byte ∷ after)
  pub place : back ≡ suc (length after)
  pub begun : Cut Is text before
  pub stops : (a : A) (x y : List ℕ) → Is a → text a ++ x ≡ before ++ (byte ∷ y) → ⊥

-- what was read; bytes can be wrong only where `May` holds
pub data Outcome (May : Type 0) {A : Type 0} (Is : A → Type 0) (text : A → List ℕ) (n : ℕ) (bs : List ℕ) (v : Read A) : Type 0 where
  stands : (a : A) (r : List ℕ) → Is a → bs ≡ text a ++ r → v ≡ Ok (a, r) → Outcome May Is text n bs v
  short : Cut Is text bs → v ≡ Err (Short n) → Outcome May Is text n bs v
  wrong : May → (back : ℕ) → Wrong Is text bs back → v ≡ Err (Bad (n - back)) → Outcome May Is text n bs v

-- things whose text is that of their first part and then the rest, where each first part has its things
pub record Splits {A C : Type 0} (IsA : A → Type 0) (text_a : A → List ℕ) (IsC : C → Type 0) (text_c : C → List ℕ) (first : C → A) (rest : C → List ℕ) : Type 0 where
  pub splits : (c : C) → text_c c ≡ text_a (first c) ++ rest c
  pub firsts : (c : C) → IsC c → IsA (first c)
  pub same : (a b : A) (x y : List ℕ) → IsA a → IsA b → text_a a ++ x ≡ text_a b ++ y → (a ≡ b) × (x ≡ y)
  pub made : (a : A) → IsA a → C
  pub made_is : (a : A) (h : IsA a) → IsC (made a h)
  pub made_first : (a : A) (h : IsA a) → first (made a h) ≡ a
  pub made_bytes : (a : A) (h : IsA a) → AreBytes (rest (made a h))

-- such things with this first part
abbrev pub With : {A C : Type 0} → (C → Type 0) → (C → A) → A → C → Type 0
With IsC first a c = IsC c × (first c ≡ a)

module _ {A C : Type 0} (May : Type 0) (IsA : A → Type 0) (text_a : A → List ℕ) (IsC : C → Type 0) (text_c : C → List ℕ) (first : C → A) (rest : C → List ℕ) (p : Splits IsA text_a IsC text_c first rest) (n : ℕ) where
  cut-first : (bs : List ℕ) → Cut IsA text_a bs → Cut IsC text_c bs
  cut-first bs k =
      let c = p.made k.thing k.fine in
      record {
        thing = c;
        fine = p.made_is k.thing k.fine;
        left = k.left ++ rest c;
        some = omega (arith, k.some, length-append k.left (rest c));
        bytes = bytes-append k.left (rest c) k.bytes (p.made_bytes k.thing k.fine);
        is = p.splits c ∙ ap (λ (z : A). text_a z ++ rest c) (p.made_first k.thing k.fine) ∙ ap (λ z. z ++ rest c) k.is ∙ append_assoc bs k.left (rest c);
      }

  wrong-first : (bs : List ℕ) (back : ℕ) → Wrong IsA text_a bs back → Wrong IsC text_c bs back
  wrong-first bs back w = record {
    before = w.before;
    byte = w.byte;
    after = w.after;
    is = w.is;
    place = w.place;
    begun = cut-first w.before w.begun;
    stops = λ c x y g q. w.stops (first c) (rest c ++ x) y (p.firsts c g) (sym (append_assoc (text_a (first c)) (rest c) x) ∙ ap (λ z. z ++ x) (sym (p.splits c)) ∙ q);
  }

  cut-rest : (bs r : List ℕ) (a : A) → bs ≡ text_a a ++ r → Cut (With IsC first a) rest r → Cut IsC text_c bs
  cut-rest bs r a e k = record {
    thing = k.thing;
    fine = k.fine.0;
    left = k.left;
    some = k.some;
    bytes = k.bytes;
    is = p.splits k.thing ∙ ap (λ (z : A). text_a z ++ rest k.thing) k.fine.1 ∙ ap (λ z. text_a a ++ z) k.is ∙ sym (append_assoc (text_a a) r k.left) ∙ ap (λ z. z ++ k.left) (sym e);
  }

  wrong-rest : (bs r : List ℕ) (a : A) (back : ℕ) → IsA a → bs ≡ text_a a ++ r → Wrong (With IsC first a) rest r back → Wrong IsC text_c bs back
  wrong-rest bs r a back h e w = record {
    before = text_a a ++ w.before;
    byte = w.byte;
    after = w.after;
    is = e ∙ ap (λ z. text_a a ++ z) w.is ∙ sym (append_assoc (text_a a) w.before (w.byte ∷ w.after));
    place = w.place;
    begun = cut-rest (text_a a ++ w.before) w.before a refl w.begun;
    stops = λ c x y g q.
        let s : text_a (first c) ++ (rest c ++ x) ≡ text_a a ++ (w.before ++ (w.byte ∷ y)) =
        sym (append_assoc (text_a (first c)) (rest c) x) ∙ ap (λ z. z ++ x) (sym (p.splits c)) ∙ q ∙ append_assoc (text_a a) w.before (w.byte ∷ y) in
        let t = p.same (first c) a (rest c ++ x) (w.before ++ (w.byte ∷ y)) (p.firsts c g) h s in
        w.stops c x y (g, t.0) t.1;
  }

  inner : (bs : List ℕ) (v : Read A) (next : A × List ℕ → Read C) (a : A) (r : List ℕ) → IsA a → bs ≡ text_a a ++ r → v ≡ Ok (a, r)
      → Outcome May (With IsC first a) rest n r (next (a, r)) → Outcome May IsC text_c n bs (v >>= next)
  inner bs v next a r h e q (stands c s g f t) =
      let is : bs ≡ text_c c ++ s =
      e ∙ ap (λ z. text_a a ++ z) f ∙ sym (append_assoc (text_a a) (rest c) s) ∙ ap (λ (z : A). (text_a z ++ rest c) ++ s) (sym g.1) ∙ ap (λ z. z ++ s) (sym (p.splits c)) in
      stands c s g.0 is (ap (λ z. z >>= next) q ∙ t)
  inner bs v next a r h e q (short k t) = short (cut-rest bs r a e k) (ap (λ z. z >>= next) q ∙ t)
  inner bs v next a r h e q (wrong m back w t) = wrong m back (wrong-rest bs r a back h e w) (ap (λ z. z >>= next) q ∙ t)

  -- the first part and then the rest
  pub followed : (bs : List ℕ) (v : Read A) (next : A × List ℕ → Read C) → AreBytes bs → Outcome May IsA text_a n bs v
      → ((a : A) (r : List ℕ) → IsA a → AreBytes r → Outcome May (With IsC first a) rest n r (next (a, r))) → Outcome May IsC text_c n bs (v >>= next)
  followed bs v next ok (stands a r h e q) o = inner bs v next a r h e q (o a r h (bytes-rest (text_a a) r (subst AreBytes e ok)))
  followed bs v next ok (short k q) o = short (cut-first bs k) (ap (λ z. z >>= next) q)
  followed bs v next ok (wrong m back w q) o = wrong m back (wrong-first bs back w) (ap (λ z. z >>= next) q)

-- lists of things and their texts
pub record Lists {A : Type 0} (Is : A → Type 0) (text : A → List ℕ) (Are : List A → Type 0) (texts : List A → List ℕ) : Type 0 where
  pub none : Are []
  pub more : (x : A) (xs : List A) → Is x → Are xs → Are (x ∷ xs)
  pub head : (x : A) (xs : List A) → Are (x ∷ xs) → Is x
  pub tail : (x : A) (xs : List A) → Are (x ∷ xs) → Are xs
  pub empty : texts [] ≡ []
  pub joins : (x : A) (xs : List A) → texts (x ∷ xs) ≡ text x ++ texts xs
  pub same : (a b : A) (x y : List ℕ) → Is a → Is b → text a ++ x ≡ text b ++ y → x ≡ y
  pub blank : A
  pub blank_is : Is blank
  pub blank_bytes : AreBytes (text blank)

-- a thing before those that follow it
abbrev put : {A : Type 0} → A → List A × List ℕ → Read (List A)
put a b = Ok (a ∷ b.0, b.1)

abbrev others : {A : Type 0} → (List ℕ → Read A) → ℕ → A × List ℕ → Read (List A)
others one k a = repeated one k a.1 >>= put a.0

-- so many things
abbrev pub SoMany : {A : Type 0} → (List A → Type 0) → ℕ → List A → Type 0
SoMany Are k xs = Are xs × (length xs ≡ k)

module _ {A : Type 0} (Is : A → Type 0) (text : A → List ℕ) (Are : List A → Type 0) (texts : List A → List ℕ) (l : Lists Is text Are texts) where
  -- so many blank ones
  pub blanks : ℕ → List A
  blanks k = replicate k l.blank

  pub length-blanks : (k : ℕ) → length (blanks k) ≡ k
  unfolding blanks
  length-blanks k = length-replicate k l.blank

  are-same : (k : ℕ) → Are (replicate k l.blank)
  are-same zero = l.none
  are-same (suc k) = l.more l.blank (replicate k l.blank) l.blank_is (are-same k)

  pub are-blanks : (k : ℕ) → Are (blanks k)
  unfolding blanks
  are-blanks k = are-same k

  bytes-same : (k : ℕ) → AreBytes (texts (replicate k l.blank))
  bytes-same zero = subst AreBytes (sym l.empty) tt
  bytes-same (suc k) = subst AreBytes (sym (l.joins l.blank (replicate k l.blank))) (bytes-append (text l.blank) (texts (replicate k l.blank)) l.blank_bytes (bytes-same k))

  pub bytes-blanks : (k : ℕ) → AreBytes (texts (blanks k))
  unfolding blanks
  bytes-blanks k = bytes-same k

  -- so many things at the front of equal lists leave the same
  pub same-behind : (xs ys : List A) (x y : List ℕ) → Are xs → Are ys → length xs ≡ length ys → texts xs ++ x ≡ texts ys ++ y → x ≡ y
  same-behind [] [] x y h k e q = ap (λ z. z ++ x) (sym l.empty) ∙ q ∙ ap (λ z. z ++ y) l.empty
  same-behind [] (b ∷ ys) x y h k e q = absurd (omega (arith, e))
  same-behind (a ∷ xs) [] x y h k e q = absurd (omega (arith, e))
  same-behind (a ∷ xs) (b ∷ ys) x y h k e q =
      let s : text a ++ (texts xs ++ x) ≡ text b ++ (texts ys ++ y) =
      sym (append_assoc (text a) (texts xs) x) ∙ ap (λ z. z ++ x) (sym (l.joins a xs)) ∙ q ∙ ap (λ z. z ++ y) (l.joins b ys) ∙ append_assoc (text b) (texts ys) y in
      same-behind xs ys x y (l.tail a xs h) (l.tail b ys k) (omega (arith, e)) (l.same a b (texts xs ++ x) (texts ys ++ y) (l.head a xs h) (l.head b ys k) s)

  list-first : (bs : List ℕ) (k : ℕ) → Cut Is text bs → Cut (SoMany Are (suc k)) texts bs
  list-first bs k c =
      let xs = blanks k in
      record {
        thing = c.thing ∷ xs;
        fine = (l.more c.thing xs c.fine (are-blanks k), ap suc (length-blanks k));
        left = c.left ++ texts xs;
        some = omega (arith, c.some, length-append c.left (texts xs));
        bytes = bytes-append c.left (texts xs) c.bytes (bytes-blanks k);
        is = l.joins c.thing xs ∙ ap (λ z. z ++ texts xs) c.is ∙ append_assoc bs c.left (texts xs);
      }

  stops-first : (before : List ℕ) (byte : ℕ) (k : ℕ) → ((a : A) (x y : List ℕ) → Is a → text a ++ x ≡ before ++ (byte ∷ y) → ⊥)
      → (xs : List A) (x y : List ℕ) → SoMany Are (suc k) xs → texts xs ++ x ≡ before ++ (byte ∷ y) → ⊥
  stops-first before byte k never [] x y g q = absurd (omega (arith, g.1))
  stops-first before byte k never (a ∷ xs) x y g q = never a (texts xs ++ x) y (l.head a xs g.0) (sym (append_assoc (text a) (texts xs) x) ∙ ap (λ z. z ++ x) (sym (l.joins a xs)) ∙ q)

  list-rest : (bs r : List ℕ) (a : A) (k : ℕ) → Is a → bs ≡ text a ++ r → Cut (SoMany Are k) texts r → Cut (SoMany Are (suc k)) texts bs
  list-rest bs r a k h e c = record {
    thing = a ∷ c.thing;
    fine = (l.more a c.thing h c.fine.0, ap suc c.fine.1);
    left = c.left;
    some = c.some;
    bytes = c.bytes;
    is = l.joins a c.thing ∙ ap (λ z. text a ++ z) c.is ∙ sym (append_assoc (text a) r c.left) ∙ ap (λ z. z ++ c.left) (sym e);
  }

  stops-rest : (a : A) (before : List ℕ) (byte : ℕ) (k : ℕ) → Is a → ((xs : List A) (x y : List ℕ) → SoMany Are k xs → texts xs ++ x ≡ before ++ (byte ∷ y) → ⊥)
      → (xs : List A) (x y : List ℕ) → SoMany Are (suc k) xs → texts xs ++ x ≡ (text a ++ before) ++ (byte ∷ y) → ⊥
  stops-rest a before byte k h never [] x y g q = absurd (omega (arith, g.1))
  stops-rest a before byte k h never (b ∷ xs) x y g q =
      let s : text b ++ (texts xs ++ x) ≡ text a ++ (before ++ (byte ∷ y)) =
      sym (append_assoc (text b) (texts xs) x) ∙ ap (λ z. z ++ x) (sym (l.joins b xs)) ∙ q ∙ append_assoc (text a) before (byte ∷ y) in
      never xs x y (l.tail b xs g.0, omega (arith, g.1)) (l.same b a (texts xs ++ x) (before ++ (byte ∷ y)) (l.head b xs g.0) h s)

  list-inner : (May : Type 0) (n k : ℕ) (bs : List ℕ) (v : Read A) (next : A × List ℕ → Read (List A)) (w : Read (List A)) (a : A) (r : List ℕ) → Is a → bs ≡ text a ++ r → v ≡ Ok (a, r)
      → next (a, r) ≡ (w >>= put a) → Outcome May (SoMany Are k) texts n r w → Outcome May (SoMany Are (suc k)) texts n bs (v >>= next)
  list-inner May n k bs v next w a r h e q d (stands xs s g f t) =
      let is : bs ≡ texts (a ∷ xs) ++ s = e ∙ ap (λ z. text a ++ z) f ∙ sym (append_assoc (text a) (texts xs) s) ∙ ap (λ z. z ++ s) (sym (l.joins a xs)) in
      stands (a ∷ xs) s (l.more a xs h g.0, ap suc g.1) is (ap (λ z. z >>= next) q ∙ d ∙ ap (λ z. z >>= put a) t)
  list-inner May n k bs v next w a r h e q d (short c t) = short (list-rest bs r a k h e c) (ap (λ z. z >>= next) q ∙ d ∙ ap (λ z. z >>= put a) t)
  list-inner May n k bs v next w a r h e q d (wrong m back c t) =
      let here : Wrong (SoMany Are (suc k)) texts bs back = record {
        before = text a ++ c.before;
        byte = c.byte;
        after = c.after;
        is = e ∙ ap (λ z. text a ++ z) c.is ∙ sym (append_assoc (text a) c.before (c.byte ∷ c.after));
        place = c.place;
        begun = list-rest (text a ++ c.before) c.before a k h refl c.begun;
        stops = stops-rest a c.before c.byte k h c.stops;
      }
      in
      wrong m back here (ap (λ z. z >>= next) q ∙ d ∙ ap (λ z. z >>= put a) t)

  go-on : (May : Type 0) (n : ℕ) (one : List ℕ → Read A) (k : ℕ) (bs : List ℕ) (v : Read A) → AreBytes bs
      → ((r : List ℕ) → AreBytes r → Outcome May (SoMany Are k) texts n r (repeated one k r)) → Outcome May Is text n bs v → Outcome May (SoMany Are (suc k)) texts n bs (v >>= others one k)
  go-on May n one k bs v ok more (stands a r h e q) = list-inner May n k bs v (others one k) (repeated one k r) a r h e q refl (more r (bytes-rest (text a) r (subst AreBytes e ok)))
  go-on May n one k bs v ok more (short c q) = short (list-first bs k c) (ap (λ z. z >>= others one k) q)
  go-on May n one k bs v ok more (wrong m back c q) =
      let here : Wrong (SoMany Are (suc k)) texts bs back = record {
        before = c.before;
        byte = c.byte;
        after = c.after;
        is = c.is;
        place = c.place;
        begun = list-first c.before k c.begun;
        stops = stops-first c.before c.byte k c.stops;
      }
      in
      wrong m back here (ap (λ z. z >>= others one k) q)

  -- so many things, one after another
  pub listed : (May : Type 0) (n : ℕ) (one : List ℕ → Read A) → ((bs : List ℕ) → AreBytes bs → Outcome May Is text n bs (one bs)) → (k : ℕ) (bs : List ℕ) → AreBytes bs → Outcome May (SoMany Are k) texts n bs (repeated one k bs)
  listed May n one o zero bs ok = stands [] bs (l.none, refl) (ap (λ z. z ++ bs) (sym l.empty)) refl
  listed May n one o (suc k) bs ok = go-on May n one k bs (one bs) ok (listed May n one o k) (o bs ok)
