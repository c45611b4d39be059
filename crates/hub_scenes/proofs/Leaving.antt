-- Rows that leave, rows that are counted, and the shards that they lie in.
use Rattle.std.proofs.Common.{◌≡◌, ℕ, suc, Bool, true, false, not, ◌&&◌, cond, List, [], ◌∷◌, ◌++◌, map as each, refl, sym, ap, subst, ◌∙◌, inl, inr}
use Rattle.std.specs.Prelude.{◌⊎◌, flat_map, Some}
use Rattle.calculus.specs.Log.{Step}
use Rattle.calculus.specs.Rows.{Row}
use Rattle.calculus.specs.Steps.{Meeting, standing, is_one_of}
use Rattle.calculus.proofs.Members.{Member, every-at, member-split, member-left, member-right, member-each}
use Rattle.events.specs.Events.{stored}
use Rattle.events.specs.Found.{met, without, leaving_rows}
use Rattle.events.proofs.Counts.{ids, AreDistinct, member-times, times-one_of}
use Rattle.events.proofs.EventStanding.{built_ins}
use Rattle.events.proofs.Spent.{row-of-id}
use Rattle.racing_replays.specs.Replaying.{ids_of}
use Rattle.racing_replays.specs.Racing.{next_use, later_uses}
use Rattle.events.proofs.Making.{among, met-joins}
use Rattle.events.proofs.Lasting.{lasts, built-lasts, leaving-fade}
use Rattle.std.specs.List.{list_all}
use Rattle.events.specs.Shards.{shards_of, Covers}
use Rattle.events.proofs.ShardStanding.{stands}
use Rattle.racing_replays.proofs.Keeping.{left-not-gone, still-there}
use Rattle.hub_scenes.specs.Spaces.{SeenRow, bare, lies_in}
use Rattle.hub_scenes.specs.Entries.{counted, left_by, counted_by}
use Rattle.hub_scenes.specs.Showing.{use_at, later_use}
use Rattle.hub_scenes.proofs.Basics.{each-twice}

all-true : {A : Type 0} (f : A → Bool) (xs : List A) → ((x : A) → Member x xs → f x ≡ true) → list_all f xs ≡ true
all-true f [] h = refl
all-true f (x ∷ xs) h = ap (λ b. b && list_all f xs) (h x (inl refl)) ∙ all-true f xs (λ y m. h y (inr m))

-- a row whose shards are touched lies in touched shards
pub lies-so : (touched : ℕ → Bool) (rs : List Row) (r : Row) → Covers touched rs → Member r rs → lies_in touched r ≡ true
lies-so touched rs r c m = all-true touched (shards_of r) (λ k i. c r k (among r rs m) (stands k r i))

-- rows that are left, where those that leave lie in touched shards
pub left-bare : (touched : ℕ → Bool) (s : Step) (gone : List (List ℕ)) (rs : List SeenRow) → ((q : SeenRow) → Member q rs → is_one_of q.row.id gone ≡ true → lies_in touched q.row ≡ true) → bare (flat_map (left_by touched s gone) rs) ≡ without gone (bare rs)
left-bare touched s gone [] h = refl
left-bare touched s gone (q ∷ rs) h = go (lies_in touched q.row) refl (is_one_of q.row.id gone) refl (left-bare touched s gone rs (λ y m e. h y (inr m) e))
  where
    go : (c : Bool) → lies_in touched q.row ≡ c → (g : Bool) → is_one_of q.row.id gone ≡ g → bare (flat_map (left_by touched s gone) rs) ≡ without gone (bare rs)
        → bare (cond c (cond g [] (counted s q ∷ [])) (q ∷ []) ++ flat_map (left_by touched s gone) rs) ≡ cond g (without gone (bare rs)) (q.row ∷ without gone (bare rs))
    go true d true e next = next
    go true d false e next = ap (λ l. q.row ∷ l) next
    go false d true e next = let n = h q (inl refl) e in cc
    go false d false e next = ap (λ l. q.row ∷ l) next

-- a test that is the other's contrary
turned-test : (b c : Bool) → (b ≡ true → c ≡ true → ⊥) → (b ≡ false → c ≡ true) → c ≡ not b
turned-test true true f g = absurd (f refl refl)
turned-test true false f g = refl
turned-test false c f g = g refl

uses-alike : (ss : List Step) (i : ℕ) (gone : List (List ℕ)) (qs : List SeenRow) (ms : List Row) → ((q : SeenRow) → Member q qs → (is_one_of q.row.id (ids_of ms) ≡ not (is_one_of q.row.id gone)) × (next_use q.row.id (suc i) 0 ss ≡ use_at ss q.row.id (suc q.done)))
    → flat_map (later_use ss gone) qs ≡ later_uses ss i ms (ids_of (bare qs))
uses-alike ss i gone [] ms h = refl
uses-alike ss i gone (q ∷ qs) ms h =
    ap (λ l. later_use ss gone q ++ l) (uses-alike ss i gone qs ms (λ z m. h z (inr m)))
    ∙ ap (λ l. l ++ later_uses ss i ms (ids_of (bare qs))) (go (is_one_of q.row.id gone) ∙ ap (λ l. cond (not (is_one_of q.row.id gone)) l []) (sym (h q (inl refl)).1) ∙ ap (λ c. cond c (next_use q.row.id (suc i) 0 ss) []) (sym (h q (inl refl)).0))
  where
    go : (b : Bool) → cond b [] (use_at ss q.row.id (suc q.done)) ≡ cond (not b) (use_at ss q.row.id (suc q.done)) []
    go true = refl
    go false = refl

-- the named rows that stay are those that are not gone
pub same-uses : (ss : List Step) (i : ℕ) (gone : List (List ℕ)) (store : List Row) (qs : List SeenRow) → AreDistinct (ids (standing (stored store))) → ((q : Row) → Member q (bare qs) → Member q (standing (stored store)))
    → ((z : Row) → Member z built_ins → is_one_of z.id gone ≡ false) → ((q : SeenRow) → Member q qs → next_use q.row.id (suc i) 0 ss ≡ use_at ss q.row.id (suc q.done))
    → flat_map (later_use ss gone) qs ≡ later_uses ss i (standing (stored (without gone store))) (ids_of (bare qs))
same-uses ss i gone store qs once there built next = uses-alike ss i gone qs (standing (stored (without gone store)))
    (λ q m. (turned-test (is_one_of q.row.id gone) _ (λ e k. leaves q.row.id e k) (λ e. stays q.row.id (times-one_of q.row.id (ids (bare qs)) (member-times q.row (bare qs) (member-each (λ y. y.row) q qs m))) e), next q m))
  where
    leaves : (x : List ℕ) → is_one_of x gone ≡ true → is_one_of x (ids (without gone store ++ built_ins)) ≡ true → ⊥
    leaves x e k = let z = row-of-id x (without gone store ++ built_ins) k in no (sym (ap (λ y. is_one_of y gone) z.2) ∙ e) (go z.0 (member-split z.0 (without gone store) built_ins z.1))
      where
        no : {b : Bool} → b ≡ true → b ≡ false → ⊥
        no e f = cc (e, f)

        go : (z : Row) → Member z (without gone store) ⊎ Member z built_ins → is_one_of z.id gone ≡ false
        go z (inl m) = left-not-gone gone store z m
        go z (inr m) = built z m

    stays : (x : List ℕ) → is_one_of x (ids (bare qs)) ≡ true → is_one_of x gone ≡ false → is_one_of x (ids (without gone store ++ built_ins)) ≡ true
    stays x n e =
        let q = row-of-id x (bare qs) n in
        ap (λ y. is_one_of y (ids (without gone store ++ built_ins))) q.2 ∙ times-one_of q.0.id (ids (without gone store ++ built_ins)) (member-times q.0 (without gone store ++ built_ins)
        (go q.0 (sym (ap (λ y. is_one_of y gone) q.2) ∙ e) (member-split q.0 store built_ins (there q.0 q.1))))
      where
        go : (z : Row) → is_one_of z.id gone ≡ false → Member z store ⊎ Member z built_ins → Member z (without gone store ++ built_ins)
        go z f (inl m) = member-left z (without gone store) built_ins (still-there gone store z f m)
        go z f (inr m) = member-right z (without gone store) built_ins m

-- counted rows are the same rows
pub built-rows : (touched : ℕ → Bool) (s : Step) (built : List SeenRow) → bare (each (counted_by touched s) built) ≡ bare built
built-rows touched s built = each-twice (λ (q : SeenRow). q.row) (counted_by touched s) (λ q. q.row) (λ q. go q (lies_in touched q.row)) built
  where
    go : (q : SeenRow) (b : Bool) → (cond b (counted s q) q).row ≡ q.row
    go q true = refl
    go q false = refl

-- the built-in receivers never leave
pub built-stays : (qs : List Row) (m : Meeting) → met qs ≡ Some m → (z : Row) → Member z built_ins → Member z (leaving_rows m.receiver.kind m.sends qs) → ⊥
built-stays qs m e z b i =
    let j = met-joins qs m e in
    let gone : Member z (leaving_rows j.joined.receiver.kind j.joined.sends qs) = subst (λ (n : Meeting). Member z (leaving_rows n.receiver.kind n.sends qs)) j.is i in
    no (sym (built-lasts z b) ∙ every-at (λ r. lasts r ≡ false) (leaving_rows j.joined.receiver.kind j.joined.sends qs) z (leaving-fade qs j.joined j.joins) gone)
  where
    no : true ≡ false → ⊥
    no e = cc e
