-- What is counted under the code of a channel tells which shards its receives show.
use Rattle.std.proofs.Common.{◌≡◌, ℕ, zero, suc, ◌+◌, ◌<◌, Bool, true, false, cond, not, ◌&&◌, ◌||◌, eqb, eq-eqb, ne_eqb, List, [], ◌∷◌, map as each, refl, sym, ◌∙◌, ap, subst, inl, inr, arith}
use Rattle.std.specs.Prelude.{is_some}
use Rattle.std.specs.Int.{bit_at}
use Rattle.std.specs.List.{AllByRecursion}
use Rattle.std.specs.declared.alloc.Global.{Global}
use Rattle.std.specs.declared.vec.Vec.{Vec}
use Rattle.std.proofs.lemmas.Nat.Bits.{bit_at-zero, bit_at-lt}
use Rattle.calculus.proofs.Members.{Every, Member}
use Rattle.calculus.specs.Tree.{Tree}
use Rattle.calculus.specs.Code.{code}
use Rattle.calculus.specs.Congruence.{congruent}
use Rattle.calculus.specs.Form.{term}
use Rattle.calculus.specs.Rows.{Row, channels}
use Rattle.calculus.specs.Steps.{as_receiver}
use Rattle.calculus.specs.Storing.{shard}
use Rattle.calculus.proofs.CodesAgree.{code_is_congruence}
use Rattle.match_targets.specs.Targets.{Ready}
use Rattle.process_laws.proofs.Channels.{IsClosedShort}
use Rattle.row_search.specs.Rows.{is_one_channel, is_heard_on}
use Rattle.row_shards.specs.Counted.{AreCounted, StandsInOne}
use Rattle.shard_counts.specs.Counts.{added}
use Rattle.events.specs.Shards.{stands_in}
use Rattle.events.proofs.Alike.{congruent_channels_share_a_shard}
use Rattle.events.proofs.ShardStanding.{stands, channel-shard}
use Rattle.row_table.specs.declared.table.Filed.{Filed}
use Rattle.row_table.specs.Groups.{is_key, Index}
use Rattle.row_table.specs.Shown.{heard_on}
use Rattle.row_table.specs.Tables.{rows_in, total, IsFiled}
use Rattle.row_table.proofs.Filing.{row-channels}
use Rattle.row_table.proofs.Grouping.{is_key-Decides}

-- a sum is some where one of its parts is
some-sum : (a b : ℕ) → not (eqb (a + b) 0) ≡ not (eqb a 0) || not (eqb b 0)
some-sum zero b = let e : zero + b ≡ b = omega arith in ap (λ n. not (eqb n 0)) e
some-sum (suc a) b =
    let e : suc a + b ≡ 0 → ⊥ = λ z. omega (arith, z) in
    let f : suc a ≡ 0 → ⊥ = λ z. omega (arith, z) in
    ap not (ne_eqb (suc a + b) 0 e) ∙ sym (ap (λ c. not c || not (eqb b 0)) (ne_eqb (suc a) 0 f))

-- a bit is some where it is 1
some-bit : (m : ℕ) → m < 2 → not (eqb m 0) ≡ eqb m 1
some-bit zero h = refl
some-bit (suc zero) h = refl
some-bit (suc (suc m)) h = absurd (omega (arith, h))

-- what is so where another is, and the other way round
same-truth : (a b : Bool) → (a ≡ true → b ≡ true) → (b ≡ true → a ≡ true) → a ≡ b
same-truth true b f g = sym (f refl)
same-truth false true f g = g refl
same-truth false false f g = refl

both-ways : (a b z : Bool) → (a && z) || (b && z) ≡ (a || b) && z
both-ways true true true = refl
both-ways true true false = refl
both-ways true false true = refl
both-ways true false false = refl
both-ways false b z = refl

and-none : (a : Bool) → a && false ≡ false
and-none true = refl
and-none false = refl

-- one of these channels is congruent
one-of : (c : Tree) (ds : List Tree) → is_one_channel c ds ≡ true → (d : Tree) × Member d ds × (congruent c d ≡ true)
one-of c [] e = cc e
one-of c (d ∷ ds) e = go (congruent c d) refl e (one-of c ds)
  where
    go : (b : Bool) → congruent c d ≡ b → b || is_one_channel c ds ≡ true → (is_one_channel c ds ≡ true → (u : Tree) × Member u ds × (congruent c u ≡ true)) → (u : Tree) × Member u (d ∷ ds) × (congruent c u ≡ true)
    go true i g next = (d, inl refl, i)
    go false i g next = let n = next g in (n.0, inr n.1, n.2)

module _ (c : Tree) (ready : Ready term c) (k : ℕ) where
  -- the key of a channel is that of a congruent one
  key-congruent : (d : Tree) → IsClosedShort d → is_key (code c) (code d) ≡ congruent c d
  key-congruent d h =
      let same = code_is_congruence c d ready.closed h.0 ready.short h.1 in
      let key = is_key-Decides (code c) (code d) in
      same-truth (is_key (code c) (code d)) (congruent c d) (λ e. same.0 (key.0 e)) (λ e. key.1 (same.1 e))

  -- what a row adds under these keys
  keys-add : (qs : List (Vec ℕ Global)) (ds : List Tree) (n : ℕ) → each (λ q. q.items) qs ≡ each code ds → Every IsClosedShort ds → not (eqb (added qs n (code c) k) 0) ≡ is_one_channel c ds && eqb (bit_at n k) 1
  keys-add [] [] n e h = refl
  keys-add [] (d ∷ ds) n e h = cc e
  keys-add (q ∷ qs) [] n e h = cc e
  keys-add (q ∷ qs) (d ∷ ds) n e h =
      let same : q.items ≡ code d = cc e in
      some-sum (cond (is_key (code c) q.items) (bit_at n k) 0) (added qs n (code c) k)
      ∙ ap (λ b. b || not (eqb (added qs n (code c) k) 0)) (ap (λ z. not (eqb (cond (is_key (code c) z) (bit_at n k) 0) 0)) same ∙ one (is_key (code c) (code d)) ∙ ap (λ b. b && eqb (bit_at n k) 1) (key-congruent d h.0))
      ∙ ap (λ b. (congruent c d && eqb (bit_at n k) 1) || b) (keys-add qs ds n (cc e) h.1) ∙ both-ways (congruent c d) (is_one_channel c ds) (eqb (bit_at n k) 1)
    where
      one : (b : Bool) → not (eqb (cond b (bit_at n k) 0) 0) ≡ b && eqb (bit_at n k) 1
      one true = some-bit (bit_at n k) (bit_at-lt n k)
      one false = refl

  module _ (lt : k < 64) (other : eqb k (shard c) ≡ false) where
    -- a receive on the channel that stands in one shard stands in no other
    not-elsewhere : (r : Row) → StandsInOne r → is_one_channel c (channels r.part) ≡ true → stands_in k r ≡ true → ⊥
    not-elsewhere r one e s =
        let d = one-of c (channels r.part) e in
        let own : stands_in (shard c) r ≡ true = subst (λ j. stands_in j r ≡ true) (sym (congruent_channels_share_a_shard c d.0 d.2)) (stands (shard d.0) r (channel-shard d.0 r d.1)) in
        no (sym (eq-eqb k (shard c) (one k (shard c) s own)) ∙ other)
      where
        no : true ≡ false → ⊥
        no z = cc z

    row-adds : (r : Row) (n : ℕ) → AreCounted r n → is_one_channel c (channels r.part) && eqb (bit_at n k) 1 ≡ is_heard_on c r && stands_in k r
    row-adds r n (inl o) =
        ap (λ b. is_one_channel c (channels r.part) && b) (ap (λ m. eqb (bit_at m k) 1) o.0 ∙ ap (λ b. eqb b 1) (bit_at-zero k)) ∙ and-none (is_one_channel c (channels r.part))
        ∙ sym (go (is_some (as_receiver r.part)) (is_one_channel c (channels r.part)) (stands_in k r) (not-elsewhere r o.1))
      where
        go : (a b s : Bool) → (b ≡ true → s ≡ true → ⊥) → (a && b) && s ≡ false
        go false b s n = refl
        go true false s n = refl
        go true true false n = refl
        go true true true n = absurd (n refl refl)
    row-adds r n (inr o) =
        ap (λ b. is_one_channel c (channels r.part) && b) (o.1 k lt) ∙ sym (ap (λ b. (b && is_one_channel c (channels r.part)) && stands_in k r) o.0)

    -- what all filed rows are counted for
    pub rows-shown : (sends receivers : Index) (es : List (List ℕ × Filed)) → AllByRecursion (IsFiled sends receivers) es → not (eqb (total es (code c) k) 0) ≡ heard_on (rows_in es) c k
    rows-shown sends receivers [] h = refl
    rows-shown sends receivers (e ∷ es) h =
        let r = e.1.row in
        some-sum (added e.1.keys.items e.1.counted (code c) k) (total es (code c) k)
        ∙ ap (λ b. b || not (eqb (total es (code c) k) 0)) (keys-add e.1.keys.items (channels r.part) e.1.counted h.0.keys (row-channels r h.0.storable) ∙ row-adds r e.1.counted h.0.counted)
        ∙ ap (λ b. (is_heard_on c r && stands_in k r) || b) (rows-shown sends receivers es h.1)
