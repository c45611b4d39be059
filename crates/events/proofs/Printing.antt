-- What a meeting prints is told by the rows that meet, wherever they stand.
use Rattle.std.proofs.Common.{◌≡◌, ℕ, suc, Bool, true, false, ◌||◌, cond, List, [], ◌∷◌, ◌++◌, length, refl, ap, sym, ◌∙◌, subst, append_assoc}
use Rattle.std.specs.Prelude.{Some, eqb}
use Rattle.std.specs.Str.{bytes_eq}
use Rattle.calculus.specs.Shape.{at}
use Rattle.calculus.specs.Rows.{Row, stdout, stdout_ack}
use Rattle.calculus.specs.Steps.{Bag, standing, line, printed_line}
use Rattle.events.specs.Found.{has_built_in_id}
use Rattle.events.proofs.Counts.{ids, AreDistinct, bytes_same, same_bytes}
use Rattle.events.proofs.Lookups.{place_of}
use Rattle.events.proofs.Meetings.{Joined, join, place_in, meeting_at}
use Rattle.events.proofs.Leaving.{place-is}

-- what a receiver's row prints that is joined with others so
abbrev pub line_by : List Row → Joined → List ℕ
line_by [] q = []
line_by (r ∷ rs) q = cond (has_built_in_id r) (line (at 0 q.bindings)) []

bytes-turn : (x y : List ℕ) → bytes_eq x y ≡ bytes_eq y x
bytes-turn x y = go (bytes_eq x y) refl (bytes_eq y x) refl
  where
    go : (b : Bool) → bytes_eq x y ≡ b → (c : Bool) → bytes_eq y x ≡ c → b ≡ c
    go true d true e = refl
    go true d false e = cc (e, same_bytes y x (sym (bytes_same x y d)))
    go false d true e = cc (d, same_bytes x y (sym (bytes_same y x e)))
    go false d false e = refl

one-more : (rs : List Row) (r : Row) → length (rs ++ r ∷ []) ≡ suc (length rs)
one-more [] r = refl
one-more (q ∷ rs) r = ap suc (one-more rs r)

-- a row stands at the place of a built-in receiver where it has its id
built-in-place : (b : Bag) (r : Row) → AreDistinct (ids (standing b))
    → eqb (place_in (standing b) r) (length b.kept) || eqb (place_in (standing b) r) (suc (length b.kept)) ≡ has_built_in_id r
built-in-place b r d = ap (λ z. z || eqb (place_in (standing b) r) (suc (length b.kept))) first ∙ ap (λ z. bytes_eq r.id stdout.id || z) second
  where
    first : eqb (place_in (standing b) r) (length b.kept) ≡ bytes_eq r.id stdout.id
    first = place-is r.id b.kept stdout (stdout_ack ∷ b.offered) d ∙ bytes-turn stdout.id r.id

    whole : (b.kept ++ stdout ∷ []) ++ (stdout_ack ∷ b.offered) ≡ standing b
    whole = append_assoc b.kept (stdout ∷ []) (stdout_ack ∷ b.offered)

    second : eqb (place_in (standing b) r) (suc (length b.kept)) ≡ bytes_eq r.id stdout_ack.id
    second =
        ap (λ n. eqb (place_in (standing b) r) n) (sym (one-more b.kept stdout))
        ∙ subst (λ l. eqb (place_of r.id 0 l) (length (b.kept ++ stdout ∷ [])) ≡ bytes_eq stdout_ack.id r.id) whole
        (place-is r.id (b.kept ++ stdout ∷ []) stdout_ack b.offered (subst (λ l. AreDistinct (ids l)) (sym whole) d))
        ∙ bytes-turn stdout_ack.id r.id

-- what rows of a bag print that meet in it
pub line-of : (b : Bag) (rs : List Row) (q : Joined) → AreDistinct (ids (standing b)) → join rs ≡ Some q → printed_line b (meeting_at (standing b) rs q) ≡ line_by rs q
line-of b [] q d e = cc e
line-of b (r ∷ rs) q d e = ap (λ z. cond z (line (at 0 q.bindings)) []) (built-in-place b r d)
