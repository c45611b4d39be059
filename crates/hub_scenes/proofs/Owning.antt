-- The entries on an operation are those that took its work.
use Rattle.std.proofs.Common.{◌≡◌, ℕ, Bool, true, false, List, [], ◌∷◌, ◌++◌, cond, refl, sym, ap, ◌∙◌, eqb, eqb-true, eq-eqb, Some}
use Rattle.std.specs.Prelude.{slice_get}
use Rattle.std.specs.Str.{bytes_eq}
use Rattle.calculus.specs.Rows.{Row}
use Rattle.calculus.specs.Runs.{Deploy, Work}
use Rattle.events.specs.Events.{AreFresh}
use Rattle.events.proofs.Counts.{same_bytes, bytes_same}
use Rattle.hub_rule.specs.Counts.{things_of, Each}
use Rattle.hub_rule.specs.Meaning.{Meaning, offered, taking, if_wanted, Allowed}
use Rattle.hub_rule.proofs.Sums.{each_to, each_more}
use Rattle.events.specs.Entries.{entries_on}
use Rattle.hub_scenes.specs.Plays.{TouchingEntry, entries_of}
use Rattle.hub_scenes.specs.PlayScene.{Opens, play_meaning}
use Rattle.hub_scenes.proofs.Logs.{still_offered, along}
use Rattle.hub_scenes.proofs.Reaching.{one_index, space}
use Rattle.hub_scenes.proofs.Waiting.{offers-differ}

module _ (deploy : Deploy) (source : Work) (works : List Row) (h : Opens deploy source [] works) where
  abbrev game : Meaning (List TouchingEntry) TouchingEntry (List Row) Row
  game = play_meaning deploy source

  -- each entry of a log took the work of its index
  took-its : (log : List (ℕ × TouchingEntry)) → Allowed game [] works log → Each (λ j e. slice_get (offered game works log) j ≡ Some e.entry.operation) log
  took-its log a = along game [] works (λ l. Each (λ j e. slice_get (offered game works l) j ≡ Some e.entry.operation) l) log a tt
      (λ before later q e b may k.
      each_more (λ j e. slice_get (offered game works (before ++ q ∷ [])) j ≡ Some e.entry.operation) before (q ∷ [])
      (each_to (λ j e. slice_get (offered game works before) j ≡ Some e.entry.operation) (λ j e. slice_get (offered game works (before ++ q ∷ [])) j ≡ Some e.entry.operation) (λ j e g. still_offered game [] works before (q ∷ []) j e.entry.operation g) before k)
      (still_offered game [] works before (q ∷ []) q.0 q.1.entry.operation may.0.0, tt))

  -- so those on the id of an offered operation are those that took it
  pub own-entries : (log : List (ℕ × TouchingEntry)) → Allowed game [] works log → AreFresh deploy (space deploy source log).made → (i : ℕ) (o : Row) → slice_get (offered game works log) i ≡ Some o
      → entries_on o.id (entries_of (things_of log)) ≡ entries_of (taking game i log)
  own-entries log a f i o there = go log (took-its log a)
    where
      pick : (b c : Bool) (e : TouchingEntry) (es : List _) (fs : List TouchingEntry) → b ≡ c → es ≡ entries_of fs → cond b (e.entry ∷ es) es ≡ entries_of (if_wanted c e fs)
      pick true true e es fs d k = ap (λ l. e.entry ∷ l) k
      pick false false e es fs d k = k
      pick true false e es fs d k = cc d
      pick false true e es fs d k = cc d

      same : (j : ℕ) (z : Row) → slice_get (offered game works log) j ≡ Some z → bytes_eq o.id z.id ≡ eqb j i
      same j z g = one (bytes_eq o.id z.id) refl (eqb j i) refl
        where
          one : (b : Bool) → bytes_eq o.id z.id ≡ b → (c : Bool) → eqb j i ≡ c → b ≡ c
          one true d true k = refl
          one false d false k = refl
          one true d false k = cc (k, eq-eqb j i (one_index (offered game works log) (offers-differ deploy source works h log a f) j i z o g there (sym (bytes_same o.id z.id d))))
          one false d true k =
              let both : Some z ≡ Some o = sym g ∙ ap (slice_get (offered game works log)) (eqb-true j i k) ∙ there in
              let it : z ≡ o = cc both in
              cc (d, same_bytes o.id z.id (sym (ap (λ (r : Row). r.id) it)))

      go : (ps : List (ℕ × TouchingEntry)) → Each (λ j e. slice_get (offered game works log) j ≡ Some e.entry.operation) ps → entries_on o.id (entries_of (things_of ps)) ≡ entries_of (taking game i ps)
      go [] k = refl
      go (q ∷ ps) k = pick (bytes_eq o.id q.1.entry.operation.id) (eqb q.0 i) q.1 (entries_on o.id (entries_of (things_of ps))) (taking game i ps) (same q.0 q.1.entry.operation k.0) (go ps k.1)
