-- What a pattern binds of a good target is good.
use Rattle.std.proofs.Common.{◌≡◌, Bool, true, false, not, ◌||◌, cond, List, [], ◌∷◌, ◌++◌, map as each, refl, subst, sym}
use Rattle.std.specs.Prelude.{⊤, flat_map}
use Rattle.std.proofs.lemmas.Bool.{true≢false}
use Rattle.calculus.proofs.Members.{Every, every-append, every-each, every-flat}
use Rattle.calculus.specs.declared.plain.TermRest.{TermRest}
use Rattle.calculus.specs.declared.plain.TermRest.TheVariants as rests
use Rattle.calculus.specs.Tree.{Label, row, list, tuple, set, dict, pair, send, bundle, pattern, any, some_process, some_name, simple, same, both, either, not_this, list_pattern, set_pattern, map_pattern, Tree, node, Trees, none, also}
use Rattle.calculus.specs.Shape.{many, only, process, held, label_of, listed, at}
use Rattle.calculus.specs.Congruence.{congruent, same_label}
use Rattle.calculus.specs.Normal.{ascending}
use Rattle.calculus.specs.Operators.{of_list}
use Rattle.calculus.specs.Matching.{Bindings, Matcher, Member, Piece, one_if, both_of, some_match, choices, Choice, ways, completed, has_wide, is_empty, parts_match, items_match, rest_match, first_items_match, members_match, of_kind, rest_of, where_form, whole_at, inner_at, wholes, form_matches, piece_of, piece, pieces, all_matches, bind_matches}
use Rattle.calculus.proofs.Alike.{same_label-Decides}
use Rattle.process_laws.proofs.Lists.{ascending-every}
use Rattle.process_laws.proofs.Goodness.{Role, a_term, a_part, a_pair, the_terms, open_slots, these_are, IsGood, AreGoodKids, AreGood, listed-good, held-good, row-good}
use Rattle.process_laws.proofs.UnfoldingPatterns.{PatternRole, a_pat, pat_part, pat_pair, the_pats, the_pairs, a_rest, PatternSlots, all_pats, these_pats, any_pats, no_pats, pattern_part_slots, pattern_slots, IsTidy, AreTidy}
use Rattle.process_laws.proofs.Making.{HasCollections, process-good, list-good, members-good, pairs-good}

module _ (O : Tree → Type 0) (collected : HasCollections O) where
  -- each of these matches binds good processes
  abbrev pub BindGood : List Bindings → Type 0
  BindGood ms = Every (AreGood O a_term) ms

  -- each match against a good tree of this role does
  abbrev pub KeepsGood : Role → Matcher → Type 0
  KeepsGood r f = (t : Tree) → IsGood O r t → BindGood (f t)

  -- the member of a row of patterns does
  abbrev KeepsMember : Role → Member → Type 0
  KeepsMember r m = KeepsGood r m.tries

  -- a thin one is tried against parts, a wide one against processes
  abbrev KeepsPart : Member → Type 0
  KeepsPart m = (m.wide ≡ false → KeepsGood a_part m.tries) × (m.wide ≡ true → KeepsGood a_term m.tries)

  one_if-binds : (b : Bool) → BindGood (one_if b)
  one_if-binds true = (tt, tt)
  one_if-binds false = tt

  both-binds : (xs ys : List Bindings) → BindGood xs → BindGood ys → BindGood (both_of xs ys)
  both-binds xs ys h k =
      every-flat (AreGood O a_term) (AreGood O a_term) (λ b. each (λ c. b ++ c) ys) (λ b a. every-each (AreGood O a_term) (AreGood O a_term) (λ c. b ++ c) (λ c e. every-append (IsGood O a_term) b c a e) ys k) xs h

  -- a tree and the others are good
  abbrev IsGoodChoice : Role → Tree × List Tree → Type 0
  IsGoodChoice r c = IsGood O r c.0 × AreGood O r c.1

  choices-good : (r : Role) (ts : List Tree) → AreGood O r ts → Every (IsGoodChoice r) (choices ts)
  choices-good r [] h = tt
  choices-good r (t ∷ ts) h = ((h.0, h.1), every-each (IsGoodChoice r) (IsGoodChoice r) (λ c. (c.0, t ∷ c.1)) (λ c k. (k.0, (h.0, k.1))) (choices ts) (choices-good r ts h.1))

  -- what members bind and what is left is good
  abbrev IsGoodWay : Role → Choice → Type 0
  IsGoodWay r w = BindGood w.0 × AreGood O r w.1

  -- where it is thin
  abbrev KeepsThin : Role → Member → Type 0
  KeepsThin r m = m.wide ≡ false → KeepsGood r m.tries

  ways-good : (r : Role) (ms : List Member) (ts : List Tree) → Every (KeepsThin r) ms → AreGood O r ts → Every (IsGoodWay r) (ways ms ts)
  ways-good r [] ts h k = ((tt, k), tt)
  ways-good r (m ∷ ms) ts h k = go m.wide refl (ways-good r ms ts h.1 k) (λ us a. ways-good r ms us h.1 a)
    where
      next : m.wide ≡ false → ((us : List Tree) → AreGood O r us → Every (IsGoodWay r) (ways ms us)) → (c : Tree × List Tree) → IsGoodChoice r c → Every (IsGoodWay r) (flat_map (λ b. each (λ w. (b ∷ w.0, w.1)) (ways ms c.1)) (m.tries c.0))
      next e f c a =
          every-flat (IsGoodWay r) (AreGood O a_term) (λ b. each (λ w. (b ∷ w.0, w.1)) (ways ms c.1))
          (λ b x. every-each (IsGoodWay r) (IsGoodWay r) (λ w. (b ∷ w.0, w.1)) (λ w i. ((x, i.0), i.1)) (ways ms c.1) (f c.1 a.1)) (m.tries c.0) (h.0 e c.0 a.0)

      go : (b : Bool) → m.wide ≡ b → Every (IsGoodWay r) (ways ms ts) → ((us : List Tree) → AreGood O r us → Every (IsGoodWay r) (ways ms us))
          → Every (IsGoodWay r) (cond b (each (λ w. ([] ∷ w.0, w.1)) (ways ms ts)) (flat_map (λ c. flat_map (λ b. each (λ w. (b ∷ w.0, w.1)) (ways ms c.1)) (m.tries c.0)) (choices ts)))
      go true e l f = every-each (IsGoodWay r) (IsGoodWay r) (λ w. ([] ∷ w.0, w.1)) (λ w i. ((tt, i.0), i.1)) (ways ms ts) l
      go false e l f = every-flat (IsGoodWay r) (IsGoodChoice r) (λ c. flat_map (λ b. each (λ w. (b ∷ w.0, w.1)) (ways ms c.1)) (m.tries c.0)) (next e f) (choices ts) (choices-good r ts k)

  completed-binds : (ms : List Member) (bs : List Bindings) (f : Matcher → List Bindings) → Every KeepsPart ms → BindGood bs → ((g : Matcher) → KeepsGood a_term g → BindGood (f g)) → BindGood (completed ms bs f)
  completed-binds [] bs f h k g = (tt, tt)
  completed-binds (m ∷ ms) [] f h k g = tt
  completed-binds (m ∷ ms) (b ∷ bs) f h k g = both-binds _ (completed ms bs f) (go m.wide refl) (completed-binds ms bs f h.1 k.1 g)
    where
      go : (w : Bool) → m.wide ≡ w → BindGood (cond w (f m.tries) (b ∷ []))
      go true e = g m.tries (h.0.1 e)
      go false e = (k.0, tt)

  thin-parts : (ms : List Member) → Every KeepsPart ms → Every (KeepsThin a_part) ms
  thin-parts [] h = tt
  thin-parts (m ∷ ms) h = (h.0.0, thin-parts ms h.1)

  parts-bind : (ms : List Member) (ts : List Tree) → Every KeepsPart ms → AreGood O a_part ts → BindGood (parts_match ms ts)
  parts-bind ms ts h k =
      every-flat (AreGood O a_term) (IsGoodWay a_part) (λ w. cond (has_wide ms || is_empty w.1) (completed ms w.0 (λ f. f (process w.1))) []) (λ w a. go w a (has_wide ms || is_empty w.1)) (ways ms (ascending ts))
      (ways-good a_part ms (ascending ts) (thin-parts ms h) (ascending-every (IsGood O a_part) ts k))
    where
      go : (w : Choice) → IsGoodWay a_part w → (b : Bool) → BindGood (cond b (completed ms w.0 (λ f. f (process w.1))) [])
      go w a true = completed-binds ms w.0 (λ f. f (process w.1)) h a.0 (λ g i. i (process w.1) (process-good O collected w.1 a.1))
      go w a false = tt

  -- these members against those trees, one by one
  items-bind : (r : Role) (ms : List Member) (ts : List Tree) → Every (KeepsMember r) ms → AreGood O r ts → BindGood (items_match ms ts)
  items-bind r [] [] h k = (tt, tt)
  items-bind r [] (t ∷ ts) h k = tt
  items-bind r (m ∷ ms) [] h k = tt
  items-bind r (m ∷ ms) (t ∷ ts) h k = both-binds (m.tries t) (items_match ms ts) (h.0 t k.0) (items-bind r ms ts h.1 k.1)

  -- a collection of good trees is good
  abbrev Collects : Role → (List Tree → Tree) → Type 0
  Collects r f = (ts : List Tree) → AreGood O r ts → IsGood O a_term (f ts)

  rest-binds : (q : Role) (r : TermRest) (f : List Tree → Tree) (ts : List Tree) → Collects q f → AreGood O q ts → BindGood (rest_match r f ts)
  rest-binds q rests.No f ts g k = one_if-binds (is_empty ts)
  rest-binds q rests.Var f ts g k = ((g ts k, tt), tt)
  rest-binds q rests.Wild f ts g k = (tt, tt)

  first_items-bind : (ms : List Member) (r : TermRest) (ts : List Tree) → Every (KeepsMember a_term) ms → AreGood O a_term ts → BindGood (first_items_match ms r of_list ts)
  first_items-bind [] r ts h k = rest-binds a_term r of_list ts (λ us a. list-good O collected us a) k
  first_items-bind (m ∷ ms) r [] h k = tt
  first_items-bind (m ∷ ms) r (t ∷ ts) h k = both-binds (m.tries t) (first_items_match ms r of_list ts) (h.0 t k.0) (first_items-bind ms r ts h.1 k.1)

  joined-binds : (bs : List Bindings) → BindGood bs → AreGood O a_term (flat_map (λ b. b) bs)
  joined-binds bs h = every-flat (IsGood O a_term) (AreGood O a_term) (λ b. b) (λ b k. k) bs h

  thin-members : (q : Role) (ms : List Member) → Every (KeepsMember q) ms → Every (KeepsThin q) ms
  thin-members q [] h = tt
  thin-members q (m ∷ ms) h = (λ e. h.0, thin-members q ms h.1)

  members-bind : (q : Role) (ms : List Member) (r : TermRest) (f : List Tree → Tree) (ts : List Tree) → Every (KeepsMember q) ms → Collects q f → AreGood O q ts → BindGood (members_match ms r f ts)
  members-bind q ms r f ts h g k =
      every-flat (AreGood O a_term) (IsGoodWay q) (λ w. both_of (flat_map (λ b. b) w.0 ∷ []) (rest_match r f w.1))
      (λ w a. both-binds (flat_map (λ b. b) w.0 ∷ []) (rest_match r f w.1) (joined-binds w.0 a.0, tt) (rest-binds q r f w.1 g a.1)) (ways ms (ascending ts))
      (ways-good q ms (ascending ts) (thin-members q ms h) (ascending-every (IsGood O q) ts k))

  -- a target of another form binds nothing
  form-binds : (l : Label) (t : Tree) (f : List Tree → List Bindings) → (label_of t ≡ l → BindGood (f (held t))) → BindGood (where_form l t f)
  form-binds l t f h = go (same_label l (label_of t)) refl
    where
      go : (b : Bool) → same_label l (label_of t) ≡ b → BindGood (cond b (f (held t)) [])
      go true e = h (sym ((same_label-Decides l (label_of t)).0 e))
      go false e = tt

  -- what a part of this form holds
  holds-good : (l : Label) (t : Tree) → label_of t ≡ l → IsGood O a_part t → (ts : Trees) × (held t ≡ listed ts) × AreGoodKids O (open_slots a_part l) ts
  holds-good l (node m ts) e h = (ts, refl, subst (λ (k : Label). AreGoodKids O (open_slots a_part k) ts) e h.1)

  members-of : (r : Role) (l : Label) (t : Tree) → label_of t ≡ l → IsGood O a_part t → ((ts : Trees) → AreGoodKids O (open_slots a_part l) ts → AreGood O r (listed ts)) → AreGood O r (held t)
  members-of r l t e h f = let k = holds-good l t e h in subst (λ (us : List Tree). AreGood O r us) (sym k.1) (f k.0 k.2)

  -- the first and the second of two
  two-good : (q r : Role) (ts : Trees) → AreGoodKids O (these_are (q ∷ r ∷ [])) ts → IsGood O q (at 0 (listed ts)) × IsGood O r (at 1 (listed ts))
  two-good q r none h = absurd h
  two-good q r (also t none) h = absurd h.1
  two-good q r (also t (also u us)) h = (h.0, h.1.0)

  sent-good : (p : Bool) (t : Tree) → label_of t ≡ send p → IsGood O a_part t → IsGood O a_term (at 0 (held t)) × IsGood O the_terms (at 1 (held t))
  sent-good p t e h =
      let k = holds-good (send p) t e h in
      subst (λ (us : List Tree). IsGood O a_term (at 0 us) × IsGood O the_terms (at 1 us)) (sym k.1) (two-good a_term the_terms k.0 k.2)

  one-good : (q : Role) (ts : Trees) → AreGoodKids O (these_are (q ∷ [])) ts → IsGood O q (at 0 (listed ts))
  one-good q none h = absurd h
  one-good q (also t us) h = h.0

  pair-held : (t : Tree) → IsGood O a_pair t → AreGood O a_term (held t)
  pair-held (node pair none) h = tt
  pair-held (node pair (also t none)) h = absurd h.1.1
  pair-held (node pair (also t (also u none))) h = (h.1.0, (h.1.1.0, tt))
  pair-held (node pair (also t (also u (also w ws)))) h = absurd h.1.1.1
  pair-held (node _ ts) h = absurd h.1

  -- what is asked of a constituent of a pattern
  abbrev pub KeepsPiece : PatternRole → Piece → Type 0
  KeepsPiece a_pat m = KeepsGood a_term m.whole.tries
  KeepsPiece pat_part m = KeepsPart m.whole
  KeepsPiece pat_pair m = KeepsGood a_pair m.whole.tries
  KeepsPiece the_pats m = Every (KeepsMember a_term) m.inner
  KeepsPiece the_pairs m = Every (KeepsMember a_pair) m.inner
  KeepsPiece a_rest m = ⊤

  -- the same of the constituents of a pattern, as its form holds them
  abbrev PiecesKeep : PatternSlots → List Piece → Type 0
  PiecesKeep (all_pats k) ms = Every (KeepsPiece k) ms
  PiecesKeep (these_pats []) [] = ⊤
  PiecesKeep (these_pats []) (m ∷ ms) = ⊥
  PiecesKeep (these_pats (k ∷ ks)) [] = ⊥
  PiecesKeep (these_pats (k ∷ ks)) (m ∷ ms) = KeepsPiece k m × PiecesKeep (these_pats ks) ms
  PiecesKeep any_pats ms = ⊤
  PiecesKeep no_pats ms = ⊥

  wholes-keep : (ms : List Piece) → Every (KeepsPiece a_pat) ms → Every (KeepsMember a_term) (wholes ms)
  wholes-keep ms h = every-each (KeepsMember a_term) (KeepsPiece a_pat) (λ m. m.whole) (λ m k. k) ms h

  wholes-part : (ms : List Piece) → Every (KeepsPiece pat_part) ms → Every KeepsPart (wholes ms)
  wholes-part ms h = every-each KeepsPart (KeepsPiece pat_part) (λ m. m.whole) (λ m k. k) ms h

  wholes-pair : (ms : List Piece) → Every (KeepsPiece pat_pair) ms → Every (KeepsMember a_pair) (wholes ms)
  wholes-pair ms h = every-each (KeepsMember a_pair) (KeepsPiece pat_pair) (λ m. m.whole) (λ m k. k) ms h

  thin : (f : Matcher) → KeepsGood a_part f → (false ≡ false → KeepsGood a_part f) × (false ≡ true → KeepsGood a_term f)
  thin f h = (λ e. h, λ e. absurd (true≢false (sym e)))

  wide : (f : Matcher) → KeepsGood a_term f → (true ≡ false → KeepsGood a_part f) × (true ≡ true → KeepsGood a_term f)
  wide f h = (λ e. absurd (true≢false e), λ e. h)

  first-whole : (ks : List PatternRole) (ms : List Piece) → PiecesKeep (these_pats (a_pat ∷ ks)) ms → KeepsGood a_term (whole_at 0 ms)
  first-whole ks [] h t g = tt
  first-whole ks (m ∷ ms) h t g = h.0 t g

  second-whole : (k : PatternRole) (ks : List PatternRole) (ms : List Piece) → PiecesKeep (these_pats (k ∷ a_pat ∷ ks)) ms → KeepsGood a_term (whole_at 1 ms)
  second-whole k ks [] h t g = tt
  second-whole k ks (l ∷ []) h t g = tt
  second-whole k ks (l ∷ m ∷ ms) h t g = h.1.0 t g

  first-inner : (ks : List PatternRole) (ms : List Piece) → PiecesKeep (these_pats (the_pats ∷ ks)) ms → Every (KeepsMember a_term) (inner_at 0 ms)
  first-inner ks [] h = tt
  first-inner ks (m ∷ ms) h = h.0

  first-pairs : (ks : List PatternRole) (ms : List Piece) → PiecesKeep (these_pats (the_pairs ∷ ks)) ms → Every (KeepsMember a_pair) (inner_at 0 ms)
  first-pairs ks [] h = tt
  first-pairs ks (m ∷ ms) h = h.0

  second-inner : (k : PatternRole) (ks : List PatternRole) (ms : List Piece) → PiecesKeep (these_pats (k ∷ the_pats ∷ ks)) ms → Every (KeepsMember a_term) (inner_at 1 ms)
  second-inner k ks [] h = tt
  second-inner k ks (l ∷ []) h = tt
  second-inner k ks (l ∷ m ∷ ms) h = h.1.0

  send-keeps : (p : Bool) (ms : List Piece) → PiecesKeep (these_pats (a_pat ∷ the_pats ∷ [])) ms → KeepsGood a_part (λ t. where_form (send p) t (λ us. both_of (whole_at 0 ms (at 0 us)) (items_match (inner_at 1 ms) (held (at 1 us)))))
  send-keeps p ms h t g =
      form-binds (send p) t (λ us. both_of (whole_at 0 ms (at 0 us)) (items_match (inner_at 1 ms) (held (at 1 us))))
      (λ e. both-binds (whole_at 0 ms (at 0 (held t))) (items_match (inner_at 1 ms) (held (at 1 (held t))))
      (first-whole (the_pats ∷ []) ms h (at 0 (held t)) (sent-good p t e g).0)
      (items-bind a_term (inner_at 1 ms) (held (at 1 (held t))) (second-inner a_pat [] ms h) (row-good O (at 1 (held t)) (sent-good p t e g).1)))

  part-keeps : (l : Label) (ts : Trees) (ms : List Piece) → PiecesKeep (pattern_part_slots l) ms → KeepsPart (piece_of l ts ms).whole
  part-keeps any ts ms h = wide (form_matches any ts ms) (λ t g. (tt, tt))
  part-keeps some_process ts ms h = wide (form_matches some_process ts ms) (λ t g. ((g, tt), tt))
  part-keeps some_name ts ms h = wide (form_matches some_name ts ms) (λ t g. ((g, tt), tt))
  part-keeps same ts ms h = wide (form_matches same ts ms) (λ t g. one_if-binds (congruent (at 0 (listed ts)) t))
  part-keeps both ts ms h = wide (form_matches both ts ms) (λ t g. both-binds (whole_at 0 ms t) (whole_at 1 ms t) (first-whole (a_pat ∷ []) ms h t g) (second-whole a_pat [] ms h t g))
  part-keeps either ts ms h = wide (form_matches either ts ms) (λ t g. one_if-binds (some_match (whole_at 0 ms t) || some_match (whole_at 1 ms t)))
  part-keeps not_this ts ms h = wide (form_matches not_this ts ms) (λ t g. one_if-binds (not (some_match (whole_at 0 ms t))))
  part-keeps (simple k) ts ms h = thin (form_matches (simple k) ts ms) (λ t g. one_if-binds (of_kind k (label_of t)))
  part-keeps list_pattern ts ms h =
      thin (form_matches list_pattern ts ms) (λ t g. form-binds list t (λ us. first_items_match (inner_at 0 ms) (rest_of (at 1 (listed ts))) of_list us) (λ e. first_items-bind (inner_at 0 ms) (rest_of (at 1 (listed ts))) (held t) (first-inner (a_rest ∷ []) ms h) (members-of a_term list t e g (λ us k. listed-good O a_term us k))))
  part-keeps tuple ts ms h =
      thin (form_matches tuple ts ms) (λ t g. form-binds tuple t (λ us. items_match (wholes ms) us) (λ e. items-bind a_term (wholes ms) (held t) (wholes-keep ms h) (members-of a_term tuple t e g (λ us k. listed-good O a_term us k))))
  part-keeps set_pattern ts ms h =
      thin (form_matches set_pattern ts ms) (λ t g. form-binds set t (λ us. members_match (inner_at 0 ms) (rest_of (at 1 (listed ts))) (λ vs. only (many set vs)) us) (λ e. members-bind a_term (inner_at 0 ms) (rest_of (at 1 (listed ts))) (λ vs. only (many set vs)) (held t) (first-inner (a_rest ∷ []) ms h) (λ us a. members-good O collected us a)
      (members-of a_term set t e g (λ us k. listed-good O a_term us k))))
  part-keeps map_pattern ts ms h =
      thin (form_matches map_pattern ts ms) (λ t g. form-binds dict t (λ us. members_match (inner_at 0 ms) (rest_of (at 1 (listed ts))) (λ vs. only (many dict vs)) us) (λ e. members-bind a_pair (inner_at 0 ms) (rest_of (at 1 (listed ts))) (λ vs. only (many dict vs)) (held t) (first-pairs (a_rest ∷ []) ms h) (λ us a. pairs-good O collected us a)
      (members-of a_pair dict t e g (λ us k. listed-good O a_pair us k))))
  part-keeps (send p) ts ms h = thin (form_matches (send p) ts ms) (send-keeps p ms h)
  part-keeps (bundle r) ts ms h =
      thin (form_matches (bundle r) ts ms) (λ t g. form-binds (bundle r) t (λ us. whole_at 0 ms (at 0 us)) (λ e. let k = holds-good (bundle r) t e g in
      first-whole [] ms h (at 0 (held t)) (subst (λ (us : List Tree). IsGood O a_term (at 0 us)) (sym k.1) (one-good a_term k.0 k.2))))
  part-keeps pattern ts ms h = absurd h
  part-keeps pair ts ms h = absurd h
  part-keeps l ts ms h = thin (form_matches l ts ms) (λ t g. one_if-binds (congruent (node l ts) t))

  pair-keeps : (ts : Trees) (ms : List Piece) → PiecesKeep (these_pats (a_pat ∷ a_pat ∷ [])) ms → KeepsGood a_pair (λ t. items_match (wholes ms) (held t))
  pair-keeps ts [] h t g = absurd h
  pair-keeps ts (l ∷ []) h t g = absurd h.1
  pair-keeps ts (l ∷ m ∷ []) h t g = items-bind a_term (wholes (l ∷ m ∷ [])) (held t) (h.0, (h.1.0, tt)) (pair-held t g)
  pair-keeps ts (l ∷ m ∷ k ∷ ms) h t g = absurd h.1.1

  form-keeps : (k : PatternRole) (l : Label) (ts : Trees) (ms : List Piece) → PiecesKeep (pattern_slots k l) ms → KeepsPiece k (piece_of l ts ms)
  form-keeps a_pat pattern ts ms h = λ t g. parts-bind (wholes ms) (held t) (wholes-part ms h) (held-good O t g)
  form-keeps a_pat _ ts ms h = absurd h
  form-keeps pat_part l ts ms h = part-keeps l ts ms h
  form-keeps pat_pair pair ts ms h = pair-keeps ts ms h
  form-keeps pat_pair _ ts ms h = absurd h
  form-keeps the_pats row ts ms h = wholes-keep ms h
  form-keeps the_pats _ ts ms h = absurd h
  form-keeps the_pairs row ts ms h = wholes-pair ms h
  form-keeps the_pairs _ ts ms h = absurd h
  form-keeps a_rest l ts ms h = tt

  mutual
    pub piece-keeps : (k : PatternRole) (p : Tree) → IsTidy k p → KeepsPiece k (piece p)
    piece-keeps k (node l ts) h = form-keeps k l ts (pieces ts) (pieces-keep (pattern_slots k l) ts h)

    pieces-keep : (s : PatternSlots) (ps : Trees) → AreTidy s ps → PiecesKeep s (pieces ps)
    pieces-keep (all_pats k) none h = tt
    pieces-keep (all_pats k) (also p ps) h = (piece-keeps k p h.0, pieces-keep (all_pats k) ps h.1)
    pieces-keep (these_pats []) none h = tt
    pieces-keep (these_pats []) (also p ps) h = absurd h
    pieces-keep (these_pats (k ∷ ks)) none h = absurd h
    pieces-keep (these_pats (k ∷ ks)) (also p ps) h = (piece-keeps k p h.0, pieces-keep (these_pats ks) ps h.1)
    pieces-keep any_pats ps h = tt
    pieces-keep no_pats ps h = absurd h

  -- what the first match of a pattern binds of a good process is good
  pub pattern-binds : (p t : Tree) → IsTidy a_pat p → IsGood O a_term t → BindGood (all_matches p t)
  unfolding all_matches
  pattern-binds p t h g = piece-keeps a_pat p h t g

  -- what a bind binds of good arguments is good
  pub bind-binds : (b : Tree) (ts : List Tree) → IsTidy the_pats (at 1 (held b)) → AreGood O a_term ts → BindGood (bind_matches b ts)
  unfolding bind_matches
  bind-binds b ts h g = first_items-bind (piece (at 1 (held b))).inner (rest_of (at 2 (held b))) ts (piece-keeps the_pats (at 1 (held b)) h) g
