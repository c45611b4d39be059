-- The order of two forms of one kind, from the orders of their data and of their constituents.
use Rattle.std.proofs.Common.{◌≡◌, ℕ, ◌<◌, ◌^◌, false, List, [], ◌∷◌, ◌++◌, map, length, refl, sym, ap, ◌∙◌, subst, arith, length-append, append_assoc}
use Rattle.std.specs.Ordering.{nat_cmp, ordering_then, is_ne}
use Rattle.std.specs.declared.cmp.Ordering.{Ordering}
use Rattle.std.proofs.lemmas.List.{length-map}
use Rattle.calculus.specs.Tree.{Label, row, rest, new, Tree, none, also, trees}
use Rattle.calculus.specs.Bytes.{be32, joined}
use Rattle.calculus.specs.Kinds.{rest_number, origin_number}
use Rattle.calculus.specs.declared.plain.Origin.{Origin}
use Rattle.calculus.specs.declared.plain.TermRest.{TermRest}
use Rattle.calculus.specs.Shape.{count, leaf, one, two, three, many}
use Rattle.calculus.specs.Order.{byte_cmp}
use Rattle.calculus.specs.Code.{head, text, code, codes}
use Rattle.calculus.specs.Form.{Sort, a_rest, row_of, Kids, all, these, kids}
use Rattle.calculus.proofs.Formed.{Holds, length-code}
use Rattle.calculus.proofs.Tails.{IsFine, length-text}
use Rattle.calculus.proofs.Splitting.{head-short}
use Rattle.term_order.specs.Orders.{Suits, ComparesAs, ThenCompares}
use Rattle.term_order.proofs.Comparing.{undecided, then_equal, then_assoc, cmp-equal}
use Rattle.term_order.proofs.Suiting.{SuitAll, kids_suit, first_suits, others_suit, code_is, cmp_form, cmp_tree}

-- the heads of two forms stand in this order, where both are short
abbrev pub HeadsCompare : Label → Label → ℕ → Ordering → Type 0
HeadsCompare l m n o = length (head l n) < 2 ^ 32 → length (head m n) < 2 ^ 32 → o ≡ byte_cmp (head l n) (head m n)

-- an order after one that leaves it to this
pub follows : (o : Ordering) (s : Sort) (t u : Tree) (r : Ordering) → is_ne o ≡ false → ComparesAs s t u r → ThenCompares o s t u r
follows o s t u r n c h k = c h k ∙ undecided o (byte_cmp (code t) (code u)) n

-- two bytes of which the first are equal
pub cmp-byte : (t x y : ℕ) (o : Ordering) → o ≡ nat_cmp x y → o ≡ byte_cmp (t ∷ x ∷ []) (t ∷ y ∷ [])
cmp-byte t x y o e = e ∙ sym (then_equal (nat_cmp x y)) ∙ sym (ap (λ p. ordering_then p (ordering_then (nat_cmp x y) (byte_cmp [] []))) (cmp-equal t))

-- the last constituent
cmp_last : (s : Sort) (t u : Tree) → Suits s t → Suits s u → byte_cmp (code t) (code u) ≡ byte_cmp (code t ++ []) (code u ++ [])
cmp_last s t u h k = sym (cmp_tree s t u [] [] h k ∙ then_equal (byte_cmp (code t) (code u)))

-- forms with one constituent
pub one_cmp : (s a : Sort) (l m : Label) (t u : Tree) (o r : Ordering) → kids s l 0 ≡ these (a ∷ []) → kids s m 0 ≡ these (a ∷ []) → HeadsCompare l m 1 o → ThenCompares o a t u r → ComparesAs s (one l t) (one m u) r
one_cmp s a l m t u o r e f d c h k =
    let hs : SuitAll (these (a ∷ [])) (also t none) = subst (λ (p : Kids). SuitAll p (also t none)) e (kids_suit s l (also t none) h) in
    let ks : SuitAll (these (a ∷ [])) (also u none) = subst (λ (p : Kids). SuitAll p (also u none)) f (kids_suit s m (also u none) k) in
    let ht = first_suits a [] t none hs in
    let ku = first_suits a [] u none ks in
    let w = d (head-short l (also t none) h.short) (head-short m (also u none) k.short) in
    c ht ku ∙ ap (ordering_then o) (cmp_last a t u ht ku)
    ∙ ap (λ p. ordering_then p (byte_cmp (code t ++ []) (code u ++ []))) w ∙ sym (cmp_form s l m (also t none) (also u none) h k)

-- forms with two constituents
pub two_cmp : (s a b : Sort) (l m : Label) (t u v w : Tree) (o p r : Ordering) → kids s l 0 ≡ these (a ∷ b ∷ []) → kids s m 0 ≡ these (a ∷ b ∷ []) → HeadsCompare l m 2 o
    → ThenCompares o a t v p → ThenCompares p b u w r → ComparesAs s (two l t u) (two m v w) r
two_cmp s a b l m t u v w o p r e f d c g h k =
    let ts = also t (also u none) in
    let vs = also v (also w none) in
    let hs : SuitAll (these (a ∷ b ∷ [])) ts = subst (λ (q : Kids). SuitAll q ts) e (kids_suit s l ts h) in
    let ks : SuitAll (these (a ∷ b ∷ [])) vs = subst (λ (q : Kids). SuitAll q vs) f (kids_suit s m vs k) in
    let ht = first_suits a (b ∷ []) t (also u none) hs in
    let kv = first_suits a (b ∷ []) v (also w none) ks in
    let hu = first_suits b [] u none (others_suit a (b ∷ []) t (also u none) hs) in
    let kw = first_suits b [] w none (others_suit a (b ∷ []) v (also w none) ks) in
    let x = byte_cmp (code t) (code v) in
    let y = byte_cmp (code u ++ []) (code w ++ []) in
    g hu kw ∙ ap (ordering_then p) (cmp_last b u w hu kw) ∙ ap (λ q. ordering_then q y) (c ht kv) ∙ then_assoc o x y
    ∙ ap (λ q. ordering_then q (ordering_then x y)) (d (head-short l ts h.short) (head-short m vs k.short))
    ∙ ap (ordering_then (byte_cmp (head l 2) (head m 2))) (sym (cmp_tree a t v (code u ++ []) (code w ++ []) ht kv))
    ∙ sym (cmp_form s l m ts vs h k)

-- forms with three constituents
pub three_cmp : (s a b z : Sort) (l m : Label) (t u v w x y : Tree) (o p q r : Ordering) → kids s l 0 ≡ these (a ∷ b ∷ z ∷ []) → kids s m 0 ≡ these (a ∷ b ∷ z ∷ []) → HeadsCompare l m 3 o
    → ThenCompares o a t w p → ThenCompares p b u x q → ThenCompares q z v y r → ComparesAs s (three l t u v) (three m w x y) r
three_cmp s a b z l m t u v w x y o p q r e f d c g i h k =
    let ts = also t (also u (also v none)) in
    let ws = also w (also x (also y none)) in
    let hs : SuitAll (these (a ∷ b ∷ z ∷ [])) ts = subst (λ (n : Kids). SuitAll n ts) e (kids_suit s l ts h) in
    let ks : SuitAll (these (a ∷ b ∷ z ∷ [])) ws = subst (λ (n : Kids). SuitAll n ws) f (kids_suit s m ws k) in
    let hu = others_suit a (b ∷ z ∷ []) t (also u (also v none)) hs in
    let kx = others_suit a (b ∷ z ∷ []) w (also x (also y none)) ks in
    let hv = others_suit b (z ∷ []) u (also v none) hu in
    let ky = others_suit b (z ∷ []) x (also y none) kx in
    let ht = first_suits a (b ∷ z ∷ []) t (also u (also v none)) hs in
    let kw = first_suits a (b ∷ z ∷ []) w (also x (also y none)) ks in
    let hb = first_suits b (z ∷ []) u (also v none) hu in
    let kb = first_suits b (z ∷ []) x (also y none) kx in
    let hz = first_suits z [] v none hv in
    let kz = first_suits z [] y none ky in
    let one = byte_cmp (code t) (code w) in
    let two = byte_cmp (code u) (code x) in
    let last = byte_cmp (code v ++ []) (code y ++ []) in
    i hz kz ∙ ap (ordering_then q) (cmp_last z v y hz kz) ∙ ap (λ n. ordering_then n last) (g hb kb) ∙ then_assoc p two last
    ∙ ap (λ n. ordering_then n (ordering_then two last)) (c ht kw) ∙ then_assoc o one (ordering_then two last)
    ∙ ap (λ n. ordering_then o (ordering_then one n)) (sym (cmp_tree b u x (code v ++ []) (code y ++ []) hb kb))
    ∙ ap (ordering_then o) (sym (cmp_tree a t w (code u ++ (code v ++ [])) (code x ++ (code y ++ [])) ht kw))
    ∙ ap (λ n. ordering_then n (byte_cmp (joined (codes ts)) (joined (codes ws)))) (d (head-short l ts h.short) (head-short m ws k.short))
    ∙ sym (cmp_form s l m ts ws h k)

-- remainders after what stands before them
pub then_rest : (p q r : Ordering) (x y : TermRest) → r ≡ ordering_then p q → q ≡ nat_cmp (rest_number x) (rest_number y) → ThenCompares p a_rest (leaf (rest x)) (leaf (rest y)) r
then_rest p q r x y e f h k = e ∙ ap (ordering_then p) (f ∙ sym (then_equal (nat_cmp (rest_number x) (rest_number y))))

cmp-same : (b xs ys : List ℕ) → byte_cmp (b ++ xs) (b ++ ys) ≡ byte_cmp xs ys
cmp-same [] xs ys = refl
cmp-same (x ∷ b) xs ys = ap (λ o. ordering_then o (byte_cmp (b ++ xs) (b ++ ys))) (cmp-equal x) ∙ cmp-same b xs ys

-- a form with any number of constituents of one sort goes by the list of these
module _ (s a : Sort) (l : Label) (b : List ℕ) (e : kids s l 0 ≡ all a) (d : (n : ℕ) → head l n ≡ b ++ be32 n) where
  row_suits : (ts : List Tree) → Suits s (many l ts) → Suits (row_of a) (many row ts)
  row_suits ts h = record {
    normal = (tt, h.normal.1);
    formed = (tt, subst (λ (p : Kids). Holds IsFine p (trees ts)) e h.formed.1);
    filled = (tt, h.filled.1);
    short = omega (arith, h.short, length-code l (trees ts), length-code row (trees ts), ap length (d (count (trees ts))), length-append b (be32 (count (trees ts))));
  }

  code_row : (ts : List Tree) → Suits s (many l ts) → code (many l ts) ≡ b ++ code (many row ts)
  code_row ts h =
      let n = count (trees ts) in
      code_is s l (trees ts) h ∙ ap (λ z. z ++ joined (codes (trees ts))) (d n) ∙ append_assoc b (be32 n) (joined (codes (trees ts)))

  pub many_cmp : (ts us : List Tree) (r : Ordering) → ComparesAs (row_of a) (many row ts) (many row us) r → ComparesAs s (many l ts) (many l us) r
  many_cmp ts us r c h k =
      c (row_suits ts h) (row_suits us k) ∙ sym (cmp-same b (code (many row ts)) (code (many row us)))
      ∙ sym (ap (λ z. byte_cmp z (code (many l us))) (code_row ts h) ∙ ap (byte_cmp (b ++ code (many row ts))) (code_row us k))

pub moved : (s : Sort) (t u v : Tree) (r : Ordering) → u ≡ v → ComparesAs s t u r → ComparesAs s t v r
moved s t u v r e c = subst (λ x. ComparesAs s t x r) e c

-- texts after one byte
pub cmp-tagged_text : (t : ℕ) (xs ys : List ℕ) (o : Ordering) → (length xs < 2 ^ 32 → length ys < 2 ^ 32 → o ≡ byte_cmp (text xs) (text ys))
    → length (t ∷ text xs) < 2 ^ 32 → length (t ∷ text ys) < 2 ^ 32 → o ≡ byte_cmp (t ∷ text xs) (t ∷ text ys)
cmp-tagged_text t xs ys o c h k =
    let m : length xs < 2 ^ 32 = omega (arith, length-text xs) in
    let n : length ys < 2 ^ 32 = omega (arith, length-text ys) in
    c m n ∙ sym (cmp-same (t ∷ []) (text xs) (text ys))

-- the names that a `new` makes
pub cmp-tagged_origins : (xs ys : List Origin) (o : Ordering) → (length xs < 2 ^ 32 → length ys < 2 ^ 32 → o ≡ byte_cmp (text (map origin_number xs)) (text (map origin_number ys)))
    → HeadsCompare (new xs) (new ys) 1 o
cmp-tagged_origins xs ys o c h k =
    let m : length xs < 2 ^ 32 = omega (arith, h, length-append (be32 (length xs)) (map origin_number xs), length-map xs origin_number) in
    let n : length ys < 2 ^ 32 = omega (arith, k, length-append (be32 (length ys)) (map origin_number ys), length-map ys origin_number) in
    c m n ∙ sym (cmp-same (0x32 ∷ []) (text (map origin_number xs)) (text (map origin_number ys)))
    ∙ ap (λ a. byte_cmp (0x32 ∷ (be32 a ++ map origin_number xs)) (0x32 ∷ text (map origin_number ys))) (length-map xs origin_number)
    ∙ ap (λ a. byte_cmp (0x32 ∷ (be32 (length xs) ++ map origin_number xs)) (0x32 ∷ (be32 a ++ map origin_number ys))) (length-map ys origin_number)
