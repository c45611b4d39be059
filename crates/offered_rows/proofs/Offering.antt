-- What is offered by a send and by a receive, from what their functions found.
use Rattle.std.proofs.Common.{◌≡◌, ℕ, Bool, cond, List, [], ◌∷◌, map, refl, ap, ◌∙◌}
use Rattle.std.specs.Prelude.{Option}
use Rattle.calculus.specs.declared.fault.FaultKind.{FaultKind}
use Rattle.calculus.specs.declared.fault.FaultKind.TheVariants as fault
use Rattle.calculus.specs.declared.plain.Kind.{Kind}
use Rattle.calculus.specs.Tree.{row, send, Tree}
use Rattle.calculus.specs.Shape.{two, many}
use Rattle.calculus.specs.Outcome.{Prices, fails}
use Rattle.calculus.specs.Rows.{Row}
use Rattle.calculus.specs.Unfolding.{Channel, offered, row_limits, send_offered, receive_offered, sorted_receive, on_channel, on_channels, all_readable, has_twins}
use Rattle.offered_rows.specs.Binds.{binds_on}
use Rattle.offered_rows.specs.Offers.{row_of, tested}

-- a send
pub send-is : (p : Prices) (t : List ℕ) (q : Bool) (c : Channel) (n : Tree) (w : Bool) (r : Bool) (xs : List Tree) (f : Option FaultKind) (base : ℕ) → base ≡ p.send → record { name = n; writable = w; readable = r } ≡ c
    → ((r : Row) → tested f r ≡ cond w (row_limits r) (fails fault.NotWritable))
    → offered base p.byte (row_of t (two (send q) n (many row xs))) (tested f (row_of t (two (send q) n (many row xs)))) ≡ send_offered p t q c xs
send-is p t q c n w r xs f base e k h =
    let u = row_of t (two (send q) n (many row xs)) in
    ap (λ b. offered b p.byte u (tested f u)) e ∙ (ap (offered p.send p.byte u) (h u) ∙ ap (λ (d : Channel). send_offered p t q d xs) k)

-- binds on the names of channels
pub on-names : (cs : List Channel) (bs : List Tree) → binds_on (map (λ c. c.name) cs) bs ≡ on_channels cs bs
on-names [] bs = refl
on-names (c ∷ cs) [] = refl
on-names (c ∷ cs) (b ∷ bs) = ap (λ us. on_channel c b ∷ us) (on-names cs bs)

-- a receive
pub receive-is : (p : Prices) (t : List ℕ) (k : Kind) (cs : List Channel) (bs : List Tree) (body : Tree) (ns : List Tree) (readable : Bool) (u : Tree) (f : Option FaultKind) (base : ℕ)
    → base ≡ p.receive → ns ≡ map (λ c. c.name) cs → readable ≡ all_readable cs → u ≡ sorted_receive k (binds_on ns bs) body
    → ((r : Row) → tested f r ≡ cond readable (cond (has_twins ns) (fails fault.SameChannel) (row_limits r)) (fails fault.NotReadable))
    → offered base p.byte (row_of t u) (tested f (row_of t u)) ≡ receive_offered p t k cs bs body
receive-is p t k cs bs body ns readable u f base e n a w h =
    let part : u ≡ sorted_receive k (on_channels cs bs) body = w ∙ (ap (λ xs. sorted_receive k (binds_on xs bs) body) n ∙ ap (λ xs. sorted_receive k xs body) (on-names cs bs)) in
    let tests : (r : Row) → tested f r ≡ cond (all_readable cs) (cond (has_twins (map (λ c. c.name) cs)) (fails fault.SameChannel) (row_limits r)) (fails fault.NotReadable) = λ r. h r
    ∙ (ap (λ b. cond b (cond (has_twins ns) (fails fault.SameChannel) (row_limits r)) (fails fault.NotReadable)) a
    ∙ ap (λ xs. cond (all_readable cs) (cond (has_twins xs) (fails fault.SameChannel) (row_limits r)) (fails fault.NotReadable)) n) in
    ap (λ b. offered b p.byte (row_of t u) (tested f (row_of t u))) e
    ∙ (ap (offered p.receive p.byte (row_of t u)) (tests (row_of t u))
    ∙ ap (λ v. offered p.receive p.byte (row_of t v) (cond (all_readable cs) (cond (has_twins (map (λ c. c.name) cs)) (fails fault.SameChannel) (row_limits (row_of t v))) (fails fault.NotReadable))) part)
