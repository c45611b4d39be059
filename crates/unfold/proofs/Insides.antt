-- What a part that is neither a send nor a receive offers: what is unfolded inside it.
use Rattle.std.proofs.Common.{◌≡◌, ℕ, suc, ◌*◌, List, [], ◌∷◌, ◌++◌, length, refl, sym, ap, ◌∙◌, add-zero}
use Rattle.std.specs.Prelude.{⊤, Option, Some, None}
use Rattle.calculus.specs.declared.plain.Origin.{Origin}
use Rattle.calculus.specs.declared.plain.Origin.TheVariants as origins
use Rattle.calculus.specs.Tree.{Label, par, send, receive, new, match, bundle, unary, binary, method, list, tuple, set, dict, Tree, node, Trees, none, also}
use Rattle.calculus.specs.Shape.{leaf, label_of, held, listed, at}
use Rattle.calculus.specs.Outcome.{Prices, Answer, gives, fails, unknown, Outcome, free, pure, charged, then_do, after, within_limits}
use Rattle.calculus.specs.Rows.{Row}
use Rattle.calculus.specs.Seeds.{digest_of, Body}
use Rattle.calculus.specs.Substitution.{put}
use Rattle.calculus.specs.Matching.{Bindings, first_match}
use Rattle.calculus.specs.Values.{value}
use Rattle.calculus.specs.Unfolding.{Product, rows_of, Unfolder, names_made, fresh_names, unfold_within, fitting, cases_tried, part_unfolded, unfold_part}
use Rattle.unfold.specs.Progress.{rows_answer, row_work}
use Rattle.unfold.specs.Inner.{fitting_body, chosen_body, silent, inner_process}
use Rattle.unfold.proofs.Working.{charged-none, charged-after, after-after, after-alike, pure-after, rows-after}

-- fresh names are no rows
no-rows : (t : List ℕ) (k : ℕ) (os : List Origin) (ts : List Product) → rows_of (fresh_names t k os ++ ts) ≡ rows_of ts
no-rows t k [] ts = refl
no-rows t k (origins.Plain ∷ os) ts = no-rows t (suc k) os ts
no-rows t k (origins.Stdout ∷ os) ts = no-rows t (suc k) os ts
no-rows t k (origins.StdoutAck ∷ os) ts = no-rows t (suc k) os ts

-- neither a send nor a receive
abbrev pub IsInner : Label → Type 0
IsInner (send q) = ⊥
IsInner (receive k) = ⊥
IsInner _ = ⊤

after-to-rows : (o : Outcome (List Product)) → after o (λ ts. pure (rows_of ts)) ≡ row_work o
after-to-rows o = go o.price o.answer
  where
    go : (n : ℕ) (a : Answer (List Product)) → then_do n a (λ ts. pure (rows_of ts)) ≡ record { price = n; answer = rows_answer a }
    go n (gives x) = ap (λ k. record { price = k; answer = gives (rows_of x) }) (add-zero n)
    go n (fails k) = refl
    go n unknown = refl

module _ (p : Prices) (again : Unfolder) (s : List ℕ) (nil : again (leaf par) s ≡ pure []) where
  -- the rows of a process that is unfolded with this seed
  abbrev inside : Tree → Outcome (List Row)
  inside u = row_work (again u s)

  nothing : after (pure (leaf par)) inside ≡ pure []
  nothing = pure-after (leaf par) inside ∙ ap row_work nil

  unfolded-within : (a : Answer Tree) → row_work (unfold_within again s a) ≡ after (free a) inside
  unfolded-within (gives t) = sym (charged-none (inside t))
  unfolded-within (fails f) = refl
  unfolded-within unknown = refl

  fitted : (m : Option Bindings) (body : Tree) (next : Outcome (List Product)) (other : Outcome Tree) → row_work next ≡ after other inside → row_work (fitting again s m body next) ≡ after (fitting_body m body other) inside
  fitted (Some vs) body next other h = unfolded-within (within_limits (put vs body))
  fitted None body next other h = h

  -- cases in order
  cases-inside : (v : Tree) (cs : List Tree) → row_work (cases_tried p again s v cs) ≡ after (chosen_body p v cs) inside
  cases-inside v [] = sym nothing
  cases-inside v (c ∷ cs) =
      ap (charged p.case) (fitted (first_match (at 0 (held c)) v) (at 1 (held c)) (cases_tried p again s v cs) (chosen_body p v cs) (cases-inside v cs))
      ∙ sym (charged-after p.case (fitting_body (first_match (at 0 (held c)) v) (at 1 (held c)) (chosen_body p v cs)) inside)

  silent-inside : (o : Outcome Tree) → row_work (after o (λ v. pure [])) ≡ after (silent o) inside
  silent-inside o =
      rows-after o (λ v. pure []) ∙ (after-alike o (λ v. pure []) (λ v. after (pure (leaf par)) inside) (λ v. sym nothing) ∙ sym (after-after o (λ v. pure (leaf par)) inside))

module _ (p : Prices) (again : Unfolder) (t : List ℕ) (nil : again (leaf par) (digest_of (Body t)) ≡ pure []) where
  part-inside : (l : Label) (ts : Trees) → IsInner l → row_work (part_unfolded p again t l ts) ≡ after (inner_process p t (node l ts)) (λ u. row_work (again u (digest_of (Body t))))
  part-inside (send q) ts h = absurd h
  part-inside (receive k) ts h = absurd h
  part-inside (new os) (also body none) h =
      let o = again (put (names_made t 0 os) body) (digest_of (Body t)) in
      let n = p.name * length os in
      ap (charged n) (rows-after o (λ ts. pure (fresh_names t 0 os ++ ts)) ∙ (after-alike o (λ ts. pure (rows_of (fresh_names t 0 os ++ ts))) (λ ts. pure (rows_of ts)) (λ ts. ap (λ (rs : List Row). pure rs) (no-rows t 0 os ts)) ∙ after-to-rows o))
      ∙ (ap (λ (m : ℕ). charged m (row_work o)) (sym (add-zero n)))
  part-inside match (also target (also (node l cs) none)) h =
      rows-after (value p target) (λ v. cases_tried p again (digest_of (Body t)) v (listed cs))
      ∙ (after-alike (value p target) (λ v. row_work (cases_tried p again (digest_of (Body t)) v (listed cs))) (λ v. after (chosen_body p v (listed cs)) (λ u. row_work (again u (digest_of (Body t))))) (λ v. cases-inside p again (digest_of (Body t)) nil v (listed cs))
      ∙ sym (after-after (value p target) (λ v. chosen_body p v (listed cs)) (λ u. row_work (again u (digest_of (Body t))))))
  part-inside (bundle r) (also body none) h = sym (pure-after body (λ u. row_work (again u (digest_of (Body t)))))
  part-inside (unary o) ts h = rows-after (value p (node (unary o) ts)) (λ v. again v (digest_of (Body t)))
  part-inside (binary o) ts h = rows-after (value p (node (binary o) ts)) (λ v. again v (digest_of (Body t)))
  part-inside (method n) ts h = rows-after (value p (node (method n) ts)) (λ v. again v (digest_of (Body t)))
  part-inside list ts h = silent-inside p again (digest_of (Body t)) nil (value p (node list ts))
  part-inside tuple ts h = silent-inside p again (digest_of (Body t)) nil (value p (node tuple ts))
  part-inside set ts h = silent-inside p again (digest_of (Body t)) nil (value p (node set ts))
  part-inside dict ts h = silent-inside p again (digest_of (Body t)) nil (value p (node dict ts))
  part-inside _ ts h = sym (nothing p again (digest_of (Body t)) nil)

-- a part that is neither a send nor a receive
pub inside-part : (p : Prices) (again : Unfolder) (s : List ℕ) (t : Tree) → again (leaf par) (digest_of (Body s)) ≡ pure [] → IsInner (label_of t) → row_work (unfold_part p again s t) ≡ after (inner_process p s t) (λ u. row_work (again u (digest_of (Body s))))
inside-part p again s (node l ts) e h = part-inside p again s e l ts h
