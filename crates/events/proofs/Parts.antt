-- What the parts of a process make is traced, where what their bodies make is.
use Rattle.std.proofs.Common.{◌≡◌, ◌≢◌, ℕ, ◌≤◌, ◌^◌, Bool, cond, List, [], ◌∷◌, ◌++◌, length, map as each, refl, subst, arith}
use Rattle.std.specs.Prelude.{⊤, Option, Some, None}
use Rattle.calculus.proofs.Members.{Every, every-left, every-right}
use Rattle.calculus.specs.declared.plain.Kind.{Kind}
use Rattle.calculus.specs.declared.plain.Origin.{Origin}
use Rattle.calculus.specs.declared.plain.UnaryOp.{UnaryOp}
use Rattle.calculus.specs.declared.plain.BinaryOp.{BinaryOp}
use Rattle.calculus.specs.declared.fault.FaultKind.TheVariants as fault
use Rattle.calculus.specs.Tree.{Label, row, list, tuple, set, dict, send, receive, new, match, bundle, unary, binary, method, Tree, node, Trees, none, also}
use Rattle.calculus.specs.Shape.{two, many, held, listed, at}
use Rattle.calculus.specs.Code.{code}
use Rattle.calculus.specs.Substitution.{put}
use Rattle.calculus.specs.Outcome.{Prices, Answer, gives, fails, unknown, Outcome, pure, after, in_order, within_limits}
use Rattle.calculus.specs.Operators.{unary_answer, binary_answer}
use Rattle.calculus.specs.Methods.{method_answer}
use Rattle.calculus.specs.Rows.{Row}
use Rattle.calculus.specs.Seeds.{message, digest_of, Body}
use Rattle.calculus.specs.Matching.{Bindings, first_match}
use Rattle.calculus.specs.Values.{value, values, operated}
use Rattle.calculus.specs.Unfolding.{Product, Channel, opened, row_limits, send_offered, has_twins, all_readable, on_channels, sorted_receive, receive_offered, names_made, fresh_names, Unfolder, unfold_within, fitting, cases_tried, part_unfolded}
use Rattle.events.specs.HashedTexts.{TextLister, given_texts, fitting_texts, cases_texts, target_texts, name_texts, part_texts}
use Rattle.events.proofs.Keys.{Move, split, body as down_body, fresh}
use Rattle.events.proofs.Ways.{Way, Traced, Begins}
use Rattle.events.proofs.Tracing.{Any, nothing-traced, row-traced, move-traced, append-traced, NamesFrom, names-traced}
use Rattle.events.specs.Numbers.{IsNumberable}
use Rattle.events.proofs.Numbering.{short-numberable, put-numberable}
use Rattle.events.proofs.Answers.{after-inv, yes-gives, no-gives, limits-give, within-short, checked-short}

-- the move to what is unfolded under a digest
abbrev IsBody : Move → Type 0
IsBody (split i) = ⊥
IsBody down_body = ⊤
IsBody (fresh j) = ⊥

operated-short : (p : Prices) (os : List (Outcome Tree)) (price : List Tree → List Tree) (answer : List Tree → Answer Tree) (v : Tree)
    → (after (in_order os) (λ vs. operated p (price vs) (answer vs))).answer ≡ gives v → length (code v) ≤ 1048576
operated-short p os price answer v e =
    let a = after-inv (in_order os) (λ vs. operated p (price vs) (answer vs)) v e in
    checked-short (answer a.0) v a.2

unary-short : (p : Prices) (o : UnaryOp) (ts : Trees) (v : Tree) → (value p (node (unary o) ts)).answer ≡ gives v → length (code v) ≤ 1048576
unfolding value
unary-short p o ts v e = operated-short p (values p ts) (λ vs. vs) (λ vs. unary_answer o (at 0 vs)) v e

binary-short : (p : Prices) (o : BinaryOp) (ts : Trees) (v : Tree) → (value p (node (binary o) ts)).answer ≡ gives v → length (code v) ≤ 1048576
unfolding value
binary-short p o ts v e = operated-short p (values p ts) (λ vs. vs) (λ vs. binary_answer o (at 0 vs) (at 1 vs)) v e

method-short : (p : Prices) (m : List ℕ) (ts : Trees) (v : Tree) → (value p (node (method m) ts)).answer ≡ gives v → length (code v) ≤ 1048576
unfolding value
method-short p m ts v e = operated-short p (values p ts) (λ vs. at 0 vs ∷ held (at 1 vs)) (λ vs. method_answer m (at 0 vs) (held (at 1 vs))) v e

-- texts of any kind
module _ (H : List ℕ → Type 0) where
  -- what a numberable process makes is traced from its digest
  abbrev pub Traces : Unfolder → TextLister → Type 0
  Traces f g = (t : Tree) (s : List ℕ) (xs : List Product) → IsNumberable t → Every H (g t s) → (f t s).answer ≡ gives xs → Traced H Any s xs

  -- nothing is made
  none-made : (s : List ℕ) (xs : List Product) → gives [] ≡ gives xs → Traced H Any s xs
  none-made s xs e = let same : [] ≡ xs = cc in subst (Traced H Any s) same (nothing-traced H Any s)

  -- what is made under the body of a digest
  under-body : (s : List ℕ) (xs : List Product) → H (message (Body s)) → Traced H Any (digest_of (Body s)) xs → Traced H Any s xs
  under-body s xs x r = move-traced H Any Any down_body s xs tt (λ w h. tt) x r

  pub within-traced : (f : Unfolder) (g : TextLister) → Traces f g → (s : List ℕ) (u : Tree) (xs : List Product) → Every H (given_texts g s (within_limits u)) → (unfold_within f s (within_limits u)).answer ≡ gives xs → Traced H Any s xs
  within-traced f g h s u xs x e = go (within_limits u) refl x e
    where
      go : (a : Answer Tree) → within_limits u ≡ a → Every H (given_texts g s a) → (unfold_within f s a).answer ≡ gives xs → Traced H Any s xs
      go (gives t) d y k = let small : length (code t) ≤ 1048576 = (within-short u t d).1 in h t s xs (short-numberable t (omega arith)) y k
      go (fails c) d y k = cc
      go unknown d y k = cc

  fitting-traced : (f : Unfolder) (g : TextLister) → Traces f g → (s : List ℕ) (m : Option Bindings) (b : Tree) (next : Outcome (List Product)) (others : List (List ℕ)) (xs : List Product) → (Every H others → next.answer ≡ gives xs → Traced H Any s xs) → Every H (fitting_texts g s m b others) → (fitting f s m b next).answer ≡ gives xs → Traced H Any s xs
  fitting-traced f g h s (Some vs) b next others xs k x e = within-traced f g h s (put vs b) xs x e
  fitting-traced f g h s None b next others xs k x e = k x e

  cases-traced : (p : Prices) (f : Unfolder) (g : TextLister) → Traces f g → (s : List ℕ) (v : Tree) (cs : List Tree) (xs : List Product) → Every H (cases_texts g s v cs) → (cases_tried p f s v cs).answer ≡ gives xs → Traced H Any s xs
  cases-traced p f g h s v [] xs x e = none-made s xs e
  cases-traced p f g h s v (c ∷ cs) xs x e =
      fitting-traced f g h s (first_match (at 0 (held c)) v) (at 1 (held c)) (cases_tried p f s v cs) (cases_texts g s v cs) xs (cases-traced p f g h s v cs xs) x e

  row-made : (s : List ℕ) (r : Row) (xs : List Product) → r.id ≡ s → row_limits r ≡ gives xs → Traced H Any s xs
  row-made s r xs i e = subst (Traced H Any s) (limits-give r xs e) (row-traced H s r i)

  send-traced : (p : Prices) (s : List ℕ) (q : Bool) (c : Channel) (vs : List Tree) (xs : List Product) → (send_offered p s q c vs).answer ≡ gives xs → Traced H Any s xs
  send-traced p s q c vs xs e =
      let r : Row = record { id = s; part = two (send q) c.name (many row vs) } in
      row-made s r xs refl (yes-gives c.writable (row_limits r) fault.NotWritable xs e)

  receive-traced : (p : Prices) (s : List ℕ) (k : Kind) (cs : List Channel) (bs : List Tree) (b : Tree) (xs : List Product) → (receive_offered p s k cs bs b).answer ≡ gives xs → Traced H Any s xs
  receive-traced p s k cs bs b xs e =
      let r : Row = record { id = s; part = sorted_receive k (on_channels cs bs) b } in
      let twins : Bool = has_twins (each (λ c. c.name) cs) in
      row-made s r xs refl (no-gives twins (row_limits r) fault.SameChannel xs (yes-gives (all_readable cs) (cond twins (fails fault.SameChannel) (row_limits r)) fault.NotReadable xs e))

  -- the names of a `new`, and what its body makes
  new-traced : (s : List ℕ) (os : List Origin) (ts : List Product) → length os ≤ 2 ^ 32 → Every H (name_texts s 0 os) → H (message (Body s)) → Traced H Any (digest_of (Body s)) ts → Traced H Any s (fresh_names s 0 os ++ ts)
  new-traced s os ts h x y r =
      append-traced H (NamesFrom 0) (Begins IsBody) Any s (fresh_names s 0 os) ts other (λ w k. tt) (λ w k. tt) (names-traced H s 0 os (omega arith) x) (move-traced H Any (Begins IsBody) down_body s ts tt (λ w k. tt) y r)
    where
      other : (v w : Way) → NamesFrom 0 v → Begins IsBody w → v ≢ w
      other [] w h k = absurd h
      other (split i ∷ v) w h k = absurd h
      other (down_body ∷ v) w h k = absurd h
      other (fresh j ∷ v) [] h k = absurd k
      other (fresh j ∷ v) (split i ∷ w) h k = absurd k
      other (fresh j ∷ v) (down_body ∷ w) h k = λ e. cc
      other (fresh j ∷ v) (fresh i ∷ w) h k = absurd k

  -- the value of an operator or a method is unfolded
  value-traced : (f : Unfolder) (g : TextLister) → Traces f g → (s : List ℕ) (o : Outcome Tree) (xs : List Product) → ((v : Tree) → o.answer ≡ gives v → length (code v) ≤ 1048576)
      → Every H (message (Body s) ∷ given_texts g (digest_of (Body s)) o.answer) → (after o (λ v. f v (digest_of (Body s)))).answer ≡ gives xs → Traced H Any s xs
  value-traced f g h s o xs short x e =
      let a = after-inv o (λ v. f v (digest_of (Body s))) xs e in
      let small = short a.0 a.1 in
      under-body s xs x.0 (h a.0 (digest_of (Body s)) xs (short-numberable a.0 (omega (arith, small))) (subst (λ c. Every H (given_texts g (digest_of (Body s)) c)) a.1 x.1) a.2)

  -- after a value nothing is made
  no-more : (s : List ℕ) (o : Outcome Tree) (xs : List Product) → (after o (λ v. pure {A = List Product} [])).answer ≡ gives xs → Traced H Any s xs
  no-more s o xs e = let a = after-inv o (λ v. pure {A = List Product} []) xs e in none-made s xs a.2

  pub part-traced : (p : Prices) (f : Unfolder) (g : TextLister) → Traces f g → (s : List ℕ) (l : Label) (ts : Trees) (xs : List Product) → IsNumberable (node l ts) → Every H (part_texts p g s l ts) → (part_unfolded p f s l ts).answer ≡ gives xs → Traced H Any s xs
  part-traced p f g h s (send q) (also c (also (node l vs) none)) xs n x e =
      let a = after-inv (value p c) (λ v. after (in_order (values p vs)) (λ us. send_offered p s q (opened v) us)) xs e in
      let b = after-inv (in_order (values p vs)) (λ us. send_offered p s q (opened a.0) us) xs a.2 in
      send-traced p s q (opened a.0) b.0 xs b.2
  part-traced p f g h s (receive k) (also (node l bs) (also b none)) xs n x e =
      let a = after-inv (in_order (each (λ c. value p (at 0 (held c))) (listed bs))) (λ vs. receive_offered p s k (each opened vs) (listed bs) b) xs e in
      receive-traced p s k (each opened a.0) (listed bs) b xs a.2
  part-traced p f g h s (new os) (also b none) xs n x e =
      let a = after-inv (f (put (names_made s 0 os) b) (digest_of (Body s))) (λ ts. pure (fresh_names s 0 os ++ ts)) xs e in
      let r = h (put (names_made s 0 os) b) (digest_of (Body s)) a.0 (put-numberable s os b n.2.0) (every-right H (name_texts s 0 os) _ x).1 a.1 in
      let same : fresh_names s 0 os ++ a.0 ≡ xs = cc a.2 in
      subst (Traced H Any s) same (new-traced s os a.0 n.1 (every-left H (name_texts s 0 os) _ x) (every-right H (name_texts s 0 os) _ x).0 r)
  part-traced p f g h s match (also target (also (node l cs) none)) xs n x e =
      let a = after-inv (value p target) (λ v. cases_tried p f (digest_of (Body s)) v (listed cs)) xs e in
      under-body s xs x.0 (cases-traced p f g h (digest_of (Body s)) a.0 (listed cs) xs (subst (λ c. Every H (target_texts g (digest_of (Body s)) (listed cs) c)) a.1 x.1) a.2)
  part-traced p f g h s (bundle r) (also b none) xs n x e = under-body s xs x.0 (h b (digest_of (Body s)) xs n.2.0 x.1 e)
  part-traced p f g h s (unary o) ts xs n x e = value-traced f g h s (value p (node (unary o) ts)) xs (unary-short p o ts) x e
  part-traced p f g h s (binary o) ts xs n x e = value-traced f g h s (value p (node (binary o) ts)) xs (binary-short p o ts) x e
  part-traced p f g h s (method m) ts xs n x e = value-traced f g h s (value p (node (method m) ts)) xs (method-short p m ts) x e
  part-traced p f g h s list ts xs n x e = no-more s (value p (node list ts)) xs e
  part-traced p f g h s tuple ts xs n x e = no-more s (value p (node tuple ts)) xs e
  part-traced p f g h s set ts xs n x e = no-more s (value p (node set ts)) xs e
  part-traced p f g h s dict ts xs n x e = no-more s (value p (node dict ts)) xs e
  part-traced p f g h s l ts xs n x e = none-made s xs e
