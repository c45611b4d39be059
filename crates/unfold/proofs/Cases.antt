-- Cases of a closed match: what stands in them is closed and short, and what trying them in order comes to.
use Rattle.std.proofs.Common.{◌≡◌, ◌≤◌, ◌<◌, ℕ, ◌+◌, ◌^◌, List, [], ◌∷◌, ◌++◌, length, get_or, map, reverse, refl, sym, ap, ◌∙◌, subst, arith, All}
use Rattle.std.proofs.lemmas.List.Elements.{All-cons, All-head, All-nil, All-tail}
use Rattle.std.specs.Prelude.{Option, Some, None, Vec, Result, Ok, Err}
use Rattle.std.specs.Result.{MatchResult, IfOk}
use Rattle.std.specs.declared.alloc.Global.{Global}
use Rattle.calculus.proofs.Members.{Every}
use Rattle.calculus.specs.Tree.{par, row, case, match, new, Tree, none, also, trees}
use Rattle.calculus.specs.Shape.{leaf, one, two, many}
use Rattle.calculus.specs.Variables.{Sense, bound, binders}
use Rattle.calculus.specs.Substitution.{put}
use Rattle.calculus.specs.CodeLaws.{IsShort}
use Rattle.calculus.specs.Form.{term, part, pat, a_case, all, Fits, Hold, IsClosed}
use Rattle.calculus.specs.Outcome.{Prices, Answer, gives, Outcome, free, pure, charged, within_limits}
use Rattle.calculus.specs.Values.{value}
use Rattle.calculus.specs.Unfolding.{names_made}
use Rattle.calculus.specs.declared.plain.Origin.{Origin}
use Rattle.calculus.proofs.Changed.{no_variables}
use Rattle.calculus.proofs.Results.{Gives}
use Rattle.process_laws.proofs.Values.{part-value}
use Rattle.calculus.specs.Matching.{Bindings, all_matches, first_of_all, first_match}
use Rattle.process_laws.proofs.Closing.{FirstIsClosed, first-closed, names-closed, put-closed}
use Rattle.process_laws.proofs.UnfoldingPatterns.{a_pat}
use Rattle.process_laws.proofs.Fitting.{fits-tidy}
use Rattle.price_table.specs.declared.stop.EvalStop.{EvalStop}
use Rattle.price_table.specs.declared.stop.EvalStop.TheVariants.{Over}
use Rattle.price_table.specs.Outcomes.{Came, Stopped}
use Rattle.price_table.proofs.Outcomes.{came-pure, later}
use Rattle.match_targets.specs.Found.{IsFirst}
use Rattle.rho_term.specs.declared.term.TermCase.{TermCase}
use Rattle.rho_term.specs.Parts.{case_tree}
use Rattle.rho_term.specs.Sizes.{in_u64, size, sizes}
use Rattle.term_encoder.proofs.Lengths.{size-code}
use Rattle.term_bounds.specs.Bound.{bound_count}
use Rattle.term_bounds.proofs.Binding.{count-bound}
use Rattle.unfold.specs.Inner.{fitting_body, chosen_body}
use Rattle.unfold.proofs.Working.{charged-none, charged-twice}
use Rattle.unfold.proofs.Whole.{within-itself}

pub cases-closed : (o : List Sense) (cs : List TermCase) → Hold (all a_case) [] o (trees (map case_tree cs)) → All (λ c. Fits a_case [] (case_tree c)) cs
cases-closed o [] h = All-nil (λ c. Fits a_case [] (case_tree c))
cases-closed o (c ∷ cs) h = All-cons (λ c. Fits a_case [] (case_tree c)) c cs h.0 (cases-closed o cs h.1)

patterns-within : (n : ℕ) (cs : List TermCase) → sizes (trees (map case_tree cs)) ≤ n → All (λ c. size c.pat ≤ n) cs
patterns-within n [] h = All-nil (λ c. size c.pat ≤ n)
patterns-within n (c ∷ cs) h = All-cons (λ c. size c.pat ≤ n) c cs (omega (arith, h)) (patterns-within n cs (omega (arith, h)))

all-short : (n : ℕ) (cs : List TermCase) → n < 2 ^ 32 → All (λ c. size c.pat ≤ n) cs → All (λ c. IsShort c.pat) cs
all-short n cs h a i d l = let k = a i d l in omega (arith, k, h, size-code (get_or cs i d).pat)

-- the patterns of a short match are short
pub short-cases : (t : Tree) (cs : List TermCase) (b : ℕ) → b ≡ in_u64 (size (two match t (many row (map case_tree cs)))) → b < 2 ^ 32 → All (λ c. IsShort c.pat) cs
short-cases t cs b e h = all-short (sizes (trees (map case_tree cs))) cs (omega (arith, e, h)) (patterns-within (sizes (trees (map case_tree cs))) cs (omega arith))

pub came-later : {A : Type 0} (cap n m k c : ℕ) (x : A) (u v : Outcome A) → u ≡ charged c v → m ≡ n + c → Came cap m k x v → Came cap n k x u
came-later cap n m k c x u v q w h = record { answer = ap (λ (o : Outcome _). o.answer) q ∙ h.answer; price = omega (arith, w, h.price, ap (λ (o : Outcome _). o.price) q); fits = h.fits }

module _ (p : Prices) (v : Tree) (cs : List Tree) where
  -- the cases before these do not fit, and trying them took a price so far to this one
  pub record Tried (cap from here : ℕ) (rest : List TermCase) : Type 0 where
    pub spent : ℕ
    pub total : here ≡ from + spent
    pub fits : here ≤ cap
    pub left : chosen_body p v cs ≡ charged spent (chosen_body p v (map case_tree rest))
    pub closed : All (λ c. Fits a_case [] (case_tree c)) rest
    pub short : All (λ c. IsShort c.pat) rest

  pub tried-none : (cap n : ℕ) (rest : List TermCase) → cs ≡ map case_tree rest → n ≤ cap → All (λ c. Fits a_case [] (case_tree c)) rest → All (λ c. IsShort c.pat) rest → Tried cap n n rest
  tried-none cap n rest e h a b =
      record { spent = 0; total = omega arith; fits = h; left = ap (chosen_body p v) e ∙ sym (charged-none (chosen_body p v (map case_tree rest))); closed = a; short = b }

  module _ (cap n here : ℕ) (rest : List TermCase) (h : Tried cap n here rest) where
    module _ (c : TermCase) (more : List TermCase) (s : rest ≡ c ∷ more) where
      tried-again : (m : Option Bindings) → first_match c.pat v ≡ m → chosen_body p v cs ≡ charged (h.spent + p.case) (fitting_body m c.body (chosen_body p v (map case_tree more)))
      tried-again m f =
          h.left ∙ (ap (λ us. charged h.spent (chosen_body p v (map case_tree us))) s
          ∙ (ap (λ o. charged h.spent (charged p.case (fitting_body o c.body (chosen_body p v (map case_tree more))))) f ∙ charged-twice h.spent p.case (fitting_body m c.body (chosen_body p v (map case_tree more)))))

      pub case-closed : Fits a_case [] (case_tree c)
      case-closed = All-head (λ x. Fits a_case [] (case_tree x)) c more (subst (All (λ x. Fits a_case [] (case_tree x))) s h.closed)

      pub case-short : IsShort c.pat
      case-short = All-head (λ x. IsShort x.pat) c more (subst (All (λ x. IsShort x.pat)) s h.short)

      pub tried-next : (k : ℕ) → first_match c.pat v ≡ None → k ≡ here + p.case → k ≤ cap → Tried cap n k more
      tried-next k f q w =
          record {
            spent = h.spent + p.case;
            total = omega (arith, q, h.total);
            fits = w;
            left = tried-again None f;
            closed = All-tail (λ x. Fits a_case [] (case_tree x)) c more (subst (All (λ x. Fits a_case [] (case_tree x))) s h.closed);
            short = All-tail (λ x. IsShort x.pat) c more (subst (All (λ x. IsShort x.pat)) s h.short);
          }

      pub tried-over : cap < here + p.case → Stopped cap n (chosen_body p v cs) Over
      tried-over w = omega (arith, w, h.total, ap (λ (o : Outcome Tree). o.price) (h.left ∙ ap (λ us. charged h.spent (chosen_body p v (map case_tree us))) s))

      pub tried-fits : (k m : ℕ) (vs : List Tree) (t : Tree) → first_match c.pat v ≡ Some vs → k ≡ here + p.case → Came cap k m t (free (within_limits (put vs c.body))) → Came cap n m t (chosen_body p v cs)
      tried-fits k m vs t f q a = came-later cap n k m (h.spent + p.case) t (chosen_body p v cs) (free (within_limits (put vs c.body))) (tried-again (Some vs) f) (omega (arith, q, h.total)) a

      pub tried-stops : (k : ℕ) (vs : List Tree) (d : EvalStop) → first_match c.pat v ≡ Some vs → k ≡ here + p.case → Stopped cap k (free (within_limits (put vs c.body))) d → Stopped cap n (chosen_body p v cs) d
      tried-stops k vs d f q a = later cap n k (h.spent + p.case) (chosen_body p v cs) (free (within_limits (put vs c.body))) d (tried-again (Some vs) f) (omega (arith, q, h.total)) a

    pub tried-all : rest ≡ [] → Came cap n here (leaf par) (chosen_body p v cs)
    tried-all w =
        came-later cap n here here h.spent (leaf par) (chosen_body p v cs) (pure (leaf par)) (h.left ∙ ap (λ us. charged h.spent (chosen_body p v (map case_tree us))) w) h.total (came-pure cap here (leaf par) h.fits)

-- a pattern without variables binds none in its case's body
pub case-binds-none : (c : TermCase) → bound_count c.pat ≡ 0 → Fits a_case [] (case_tree c) → IsClosed c.body
case-binds-none c e h =
    subst (λ v. Fits term v c.body) (ap (λ vs. reverse vs ++ []) (binders-none (bound c.pat) (bound c.body) (sym (count-bound c.pat) ∙ e) (no_variables _ c.body h.1.1.0))) h.1.1.0
  where
    binders-none : (xs ys : List Sense) → length xs ≡ 0 → ys ≡ [] → xs ++ (ys ++ []) ≡ []
    binders-none [] ys n w = rw w refl
    binders-none (x ∷ xs) ys n w = absurd (omega (arith, n))

-- there is no first match where none is given
pub none-first : (bs : List Bindings) (o : Option (Vec Tree Global)) → IsFirst bs o → ((v : Vec Tree Global) → o ≡ Some v → ⊥) → first_of_all bs ≡ None
none-first bs None h k = h
none-first bs (Some v) h k = absurd (k v refl)

-- what a closed case's body is under what its pattern binds of a closed process
pub fitting-closed : (c : TermCase) (v : Tree) (vs : List Tree) → Fits a_case [] (case_tree c) → IsClosed v → first_match c.pat v ≡ Some vs → IsClosed (put vs c.body)
fitting-closed c v vs f h e =
    put-closed (reverse (binders case (also c.pat (also c.body none))) ++ []) c.body vs f.1.1.0 (of-first (all_matches c.pat v) (first-closed c.pat v (fits-tidy pat a_pat [] c.pat tt f.1.0) h) e)
  where
    of-first : (ms : List Bindings) → FirstIsClosed ms → first_of_all ms ≡ Some vs → Every IsClosed vs
    of-first [] k q = cc
    of-first (b ∷ bs) k q = subst (λ us. Every IsClosed us) (cc) k

-- a result within the limits is the process that was tested
pub within-closed : {X : Type 0} (price : X → ℕ) (val : X → Tree) (cap n : ℕ) (u : Tree) (r : Result X EvalStop) → IsClosed u → MatchResult r (λ q. Came cap n (price q) (val q) (free (within_limits u))) (λ e. Stopped cap n (free (within_limits u)) e) → IfOk r (λ q. IsClosed (val q))
within-closed price val cap n u (Ok q) c h = subst IsClosed (within-itself u (val q) h.answer) c
within-closed price val cap n u (Err d) c h = tt

given : (a : Answer Tree) (v : Tree) → a ≡ gives v → Gives IsClosed a → IsClosed v
given a v e h = subst (Gives IsClosed) e h

-- and so is the value of a closed part
pub value-given : {X : Type 0} (price : X → ℕ) (val : X → Tree) (p : Prices) (cap n : ℕ) (t : Tree) (r : Result X EvalStop) → Fits part [] t → MatchResult r (λ q. Came cap n (price q) (val q) (value p t)) (λ e. Stopped cap n (value p t) e) → IfOk r (λ q. IsClosed (val q))
value-given price val p cap n t (Ok q) f h = given (value p t).answer (val q) h.answer (part-value p t f)
value-given price val p cap n t (Err d) f h = tt

is-put : (m : ℕ) (vs : List Tree) (body v : Tree) (o : Outcome Tree) → o ≡ charged m (pure (put vs body)) → o.answer ≡ gives v → put vs body ≡ v
is-put m vs body v o e h =
    let q : gives (put vs body) ≡ gives v = sym (ap (λ (u : Outcome Tree). u.answer) e) ∙ h in
    cc

-- a body under the names of a `new`
pub named-closed : {X : Type 0} (price : X → ℕ) (val : X → Tree) (cap n m : ℕ) (s : List ℕ) (os : List Origin) (body : Tree) (r : Result X EvalStop) → Fits part [] (one (new os) body)
    → MatchResult r (λ q. Came cap n (price q) (val q) (charged m (pure (put (names_made s 0 os) body)))) (λ e. Stopped cap n (charged m (pure (put (names_made s 0 os) body))) e) → IfOk r (λ q. IsClosed (val q))
named-closed price val cap n m s os body (Ok q) f h =
    subst IsClosed (is-put m (names_made s 0 os) body (val q) (charged m (pure (put (names_made s 0 os) body))) refl h.answer)
    (put-closed (reverse (binders (new os) (also body none)) ++ []) body (names_made s 0 os) f.1.0 (names-closed s 0 os))
named-closed price val cap n m s os body (Err d) f h = tt
