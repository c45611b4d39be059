-- Where bytes stop being UTF-8.
use Rattle.std.proofs.Common.{◌≡◌, ◌≤◌, ◌<◌, ◌+◌, ◌-◌, ℕ, List, length, take, drop, get_or, length-drop, sym, ◌∙◌, ap, subst, arith}
use Rattle.std.specs.Str.{IsUtf8, IsValidUpTo}
use Rattle.std.proofs.lemmas.Bool.{cases_lt}
use Rattle.std.proofs.lemmas.List.{length-take-le, take-take, get_or-take, get_or-drop, drop-take}
use Rattle.std.proofs.lemmas.Str.{IsUtf8-drop, IsUtf8-take, IsCharBoundary-from_take, IsCharBoundary-before_ascii}
use Rattle.std.proofs.Math.Logic.{⊎_elim}

-- what is left of a text in UTF-8 after a front in UTF-8
after_front : (text : List ℕ) (p k : ℕ) → p ≤ k → k ≤ length text → IsUtf8 (take p text) → IsUtf8 (take k text) → IsUtf8 (take (k - p) (drop p text))
after_front text p k low high front whole =
    let len : length (take k text) ≡ k = length-take-le k text high in
    let cut : take p (take k text) ≡ take p text = take-take p k text low in
    let there : IsUtf8 (take p (take k text)) = subst IsUtf8 (sym cut) front in
    let rest = IsUtf8-drop (take k text) p whole (IsCharBoundary-from_take (take k text) p whole (omega arith) there) in
    let sum : p + (k - p) ≡ k = omega arith in
    let is : drop p (take k text) ≡ take (k - p) (drop p text) = ap (λ n. drop p (take n text)) (sym sum) ∙ drop-take p (k - p) text in
    subst IsUtf8 is rest

-- no longer front of what follows is UTF-8, up to its end or an ASCII byte
no_longer : (tail : List ℕ) (m v j : ℕ) → m ≤ length tail → (m < length tail → get_or tail m 0 < 128) → IsValidUpTo (take m tail) v → (IsUtf8 (take m tail) → ⊥)
    → v < j → j ≤ length tail → IsUtf8 (take j tail) → ⊥
no_longer tail m v j within ascii most not_utf8 p q u = ⊎_elim
    (λ l. let len : length (take j tail) ≡ j = length-take-le j tail q in
    let byte : get_or (take j tail) m 0 ≡ get_or tail m 0 = get_or-take j tail m 0 l in
    let here = ascii (omega arith) in
    let cut : take m (take j tail) ≡ take m tail = take-take m j tail (omega arith) in
    not_utf8 (subst IsUtf8 cut (IsUtf8-take (take j tail) m u (IsCharBoundary-before_ascii (take j tail) m (omega arith) (omega arith)))))
    (λ l. let cut : take j (take m tail) ≡ take j tail = take-take j m tail l in most.longest j p (subst IsUtf8 (sym cut) u))
    (cases_lt m j)

-- nor is one of the text, where what came before is
pub ill_formed : (text : List ℕ) (p m v k : ℕ) → IsUtf8 (take p text) → p + m ≤ length text → (p + m < length text → get_or text (p + m) 0 < 128)
    → IsValidUpTo (take m (drop p text)) v → (IsUtf8 (take m (drop p text)) → ⊥) → p + v < k → k ≤ length text → IsUtf8 (take k text) → ⊥
ill_formed text p m v k front within ascii most not_utf8 low high u =
    let len : length (drop p text) ≡ length text - p = length-drop p text in
    no_longer (drop p text) m v (k - p) (omega arith)
    (λ l. let same : get_or (drop p text) m 0 ≡ get_or text (p + m) 0 = get_or-drop p text m 0 in let here = ascii (omega arith) in omega arith)
    most not_utf8 (omega arith) (omega arith) (after_front text p k (omega arith) high front u)
