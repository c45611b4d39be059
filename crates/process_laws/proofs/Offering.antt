-- What any process offers is short, and may be stored where it is closed.
use Rattle.std.proofs.Common.{◌≡◌, ◌≤◌, ℕ, zero, suc, Bool, true, false, cond, ltb, List, [], ◌∷◌, ◌++◌, map as each, refl, arith}
use Rattle.std.specs.Prelude.{⊤, Option, Some, None}
use Rattle.std.proofs.lemmas.Bool.{ltb-false}
use Rattle.calculus.proofs.Members.{Every, every-append}
use Rattle.calculus.specs.declared.fault.FaultKind.TheVariants as fault
use Rattle.calculus.specs.declared.plain.Kind.{Kind}
use Rattle.calculus.specs.declared.plain.Origin.{Origin}
use Rattle.calculus.specs.declared.plain.Origin.TheVariants as origins
use Rattle.calculus.specs.Tree.{Label, row, list, tuple, set, dict, send, receive, new, match, bundle, unary, binary, method, Tree, node, Trees, none, also}
use Rattle.calculus.specs.Shape.{held, listed, at, many, two}
use Rattle.calculus.specs.Size.{height}
use Rattle.calculus.specs.Code.{code}
use Rattle.calculus.specs.Normal.{ascending}
use Rattle.calculus.specs.Form.{part, IsDigest, Fits}
use Rattle.calculus.specs.Outcome.{Prices, Answer, gives, fails, unknown, Outcome, pure, after, in_order, within_limits}
use Rattle.calculus.specs.Substitution.{put}
use Rattle.calculus.specs.Seeds.{digest_of, message, Split, Body}
use Rattle.calculus.specs.Values.{value, values}
use Rattle.calculus.specs.Matching.{Bindings, first_match}
use Rattle.calculus.specs.Rows.{Row, row_length, channels}
use Rattle.calculus.specs.Storing.{is_active, AreRising, IsStorable}
use Rattle.calculus.specs.Unfolding.{Product, a_row, a_fresh, Channel, opened, row_limits, send_offered, receive_offered, sorted_receive, on_channels, all_readable, has_twins, names_made, fresh_names, Unfolder, unfold_within, unfold_under, fitting, cases_tried, part_unfolded, unfold_part, parts_unfolded, unfold_in}
use Rattle.calculus.proofs.Digests.{digest-fits}
use Rattle.calculus.proofs.Results.{Gives, after-gives}
use Rattle.process_laws.proofs.Channels.{part-length}
use Rattle.process_laws.proofs.Rising.{receive-rises}

-- a row within the limit on its length that may be stored where it is closed
abbrev pub IsReady : Row → Type 0
IsReady r = (row_length r ≤ 1048576) × (Fits part [] r.part → IsStorable r)

-- such a row, or a fresh name
abbrev pub IsReadyThing : Product → Type 0
IsReadyThing (a_row r) = IsReady r
IsReadyThing (a_fresh x) = ⊤

-- work that offers such things alone
abbrev pub OffersReady : Outcome (List Product) → Type 0
OffersReady o = Gives (Every IsReadyThing) o.answer

-- each process unfolds to such things
abbrev pub UnfoldsReady : Unfolder → Type 0
UnfoldsReady f = (t : Tree) (s : List ℕ) → OffersReady (f t s)

chosen : (b : Bool) (x y : Answer (List Product)) → (b ≡ true → Gives (Every IsReadyThing) x) → (b ≡ false → Gives (Every IsReadyThing) y) → Gives (Every IsReadyThing) (cond b x y)
chosen true x y h k = h refl
chosen false x y h k = k refl

any-gives : {A : Type 0} (a : Answer A) → Gives (λ x. ⊤) a
any-gives (gives x) = tt
any-gives (fails f) = tt
any-gives unknown = tt

-- what comes after any value
after-any : {A : Type 0} (o : Outcome A) (next : A → Outcome (List Product)) → ((x : A) → OffersReady (next x)) → OffersReady (after o next)
after-any o next h = after-gives (λ x. ⊤) (Every IsReadyThing) o next (any-gives o.answer) (λ x y. h x)

-- a row with an id, whose channels rise, where its length and its height are tested
limits-ready : (r : Row) → IsDigest r.id → is_active r.part ≡ true → (row_length r ≤ 1048576 → Fits part [] r.part → AreRising (each code (channels r.part))) → Gives (Every IsReadyThing) (row_limits r)
limits-ready r i a h =
    chosen (ltb 400 (height r.part)) (fails fault.TooDeep) (cond (ltb 1048576 (row_length r)) (fails fault.TooBig) (gives (a_row r ∷ []))) (λ e. tt)
    (λ e. chosen (ltb 1048576 (row_length r)) (fails fault.TooBig) (gives (a_row r ∷ [])) (λ g. tt)
    (λ g. let l = ltb-false 1048576 (row_length r) g in
    ((l, (λ f. record { id = i; active = a; closed = (tt, (f, tt)); low = ltb-false 400 (height r.part) e; short = l; rising = h l f })), tt)))

send-ready : (p : Prices) (s : List ℕ) (q : Bool) (c : Channel) (vs : List Tree) → IsDigest s → OffersReady (send_offered p s q c vs)
send-ready p s q c vs i =
    let r : Row = record { id = s; part = two (send q) c.name (many row vs) } in
    chosen c.writable (row_limits r) (fails fault.NotWritable) (λ e. limits-ready r i refl (λ l f. (tt, tt))) (λ e. tt)

receive-ready : (p : Prices) (s : List ℕ) (k : Kind) (cs : List Channel) (bs : List Tree) (body : Tree) → IsDigest s → OffersReady (receive_offered p s k cs bs body)
receive-ready p s k cs bs body i =
    let r : Row = record { id = s; part = sorted_receive k (on_channels cs bs) body } in
    let twins : Bool = has_twins (each (λ c. c.name) cs) in
    chosen (all_readable cs) (cond twins (fails fault.SameChannel) (row_limits r)) (fails fault.NotReadable)
    (λ e. chosen twins (fails fault.SameChannel) (row_limits r) (λ g. tt)
    (λ g. limits-ready r i refl (λ l f. receive-rises k cs bs body g f (omega (arith, l, part-length r refl f))))) (λ e. tt)

fresh-ready : (s : List ℕ) (k : ℕ) (os : List Origin) → Every IsReadyThing (fresh_names s k os)
fresh-ready s k [] = tt
fresh-ready s k (origins.Plain ∷ os) = (tt, fresh-ready s (suc k) os)
fresh-ready s k (origins.Stdout ∷ os) = fresh-ready s (suc k) os
fresh-ready s k (origins.StdoutAck ∷ os) = fresh-ready s (suc k) os

module _ (p : Prices) (f : Unfolder) (h : UnfoldsReady f) where
  within-ready : (s : List ℕ) (a : Answer Tree) → OffersReady (unfold_within f s a)
  within-ready s (gives t) = h t s
  within-ready s (fails e) = tt
  within-ready s unknown = tt

  pub under-ready : (s : List ℕ) (vs : List Tree) (body : Tree) → OffersReady (unfold_under f s vs body)
  under-ready s vs body = within-ready s (within_limits (put vs body))

  fitting-ready : (s : List ℕ) (m : Option Bindings) (body : Tree) (next : Outcome (List Product)) → OffersReady next → OffersReady (fitting f s m body next)
  fitting-ready s (Some vs) body next k = under-ready s vs body
  fitting-ready s None body next k = k

  cases-ready : (s : List ℕ) (v : Tree) (cs : List Tree) → OffersReady (cases_tried p f s v cs)
  cases-ready s v [] = tt
  cases-ready s v (c ∷ cs) = fitting-ready s (first_match (at 0 (held c)) v) (at 1 (held c)) (cases_tried p f s v cs) (cases-ready s v cs)

  again-ready : (o : Outcome Tree) (s : List ℕ) → OffersReady (after o (λ v. f v s))
  again-ready o s = after-any o (λ v. f v s) (λ v. h v s)

  silent-ready : (o : Outcome Tree) → OffersReady (after o (λ v. pure []))
  silent-ready o = after-any o (λ v. pure []) (λ v. tt)

  part-ready : (s : List ℕ) → IsDigest s → (l : Label) (ts : Trees) → OffersReady (part_unfolded p f s l ts)
  part-ready s i (send q) (also c (also (node l xs) none)) =
      after-any (value p c) (λ v. after (in_order (values p xs)) (λ vs. send_offered p s q (opened v) vs))
      (λ v. after-any (in_order (values p xs)) (λ vs. send_offered p s q (opened v) vs) (λ vs. send-ready p s q (opened v) vs i))
  part-ready s i (receive k) (also (node l bs) (also body none)) =
      after-any (in_order (each (λ b. value p (at 0 (held b))) (listed bs))) (λ vs. receive_offered p s k (each opened vs) (listed bs) body) (λ vs. receive-ready p s k (each opened vs) (listed bs) body i)
  part-ready s i (new os) (also body none) =
      after-gives (Every IsReadyThing) (Every IsReadyThing) (f (put (names_made s 0 os) body) (digest_of (Body s))) (λ ts. pure (fresh_names s 0 os ++ ts)) (h (put (names_made s 0 os) body) (digest_of (Body s)))
      (λ ts k. every-append IsReadyThing (fresh_names s 0 os) ts (fresh-ready s 0 os) k)
  part-ready s i match (also t (also (node l cs) none)) = after-any (value p t) (λ v. cases_tried p f (digest_of (Body s)) v (listed cs)) (λ v. cases-ready (digest_of (Body s)) v (listed cs))
  part-ready s i (bundle r) (also body none) = h body (digest_of (Body s))
  part-ready s i (unary o) ts = again-ready (value p (node (unary o) ts)) (digest_of (Body s))
  part-ready s i (binary o) ts = again-ready (value p (node (binary o) ts)) (digest_of (Body s))
  part-ready s i (method n) ts = again-ready (value p (node (method n) ts)) (digest_of (Body s))
  part-ready s i list ts = silent-ready (value p (node list ts))
  part-ready s i tuple ts = silent-ready (value p (node tuple ts))
  part-ready s i set ts = silent-ready (value p (node set ts))
  part-ready s i dict ts = silent-ready (value p (node dict ts))
  part-ready s i l ts = tt

  parts-ready : (s : List ℕ) (i : ℕ) (ts : List Tree) → OffersReady (parts_unfolded p f s i ts)
  parts-ready s i [] = tt
  parts-ready s i (node l us ∷ ts) =
      after-gives (Every IsReadyThing) (Every IsReadyThing) (unfold_part p f (digest_of (Split s i)) (node l us)) (λ rs. after (parts_unfolded p f s (suc i) ts) (λ qs. pure (rs ++ qs))) (part-ready (digest_of (Split s i)) (digest-fits (message (Split s i))) l us)
      (λ rs x. after-gives (Every IsReadyThing) (Every IsReadyThing) (parts_unfolded p f s (suc i) ts) (λ qs. pure (rs ++ qs)) (parts-ready s (suc i) ts) (λ qs y. every-append IsReadyThing rs qs x y))

-- whatever the room
pub unfold-ready : (p : Prices) (room : ℕ) → UnfoldsReady (unfold_in p room)
unfolding unfold_in
unfold-ready p zero t s = tt
unfold-ready p (suc room) t s = parts-ready p (unfold_in p room) (unfold-ready p room) s 0 (ascending (held t))
