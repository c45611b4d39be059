-- The texts that are hashed for the digests of a deploy: those of the seeds along its unfoldings.
use Rattle.std.specs.Prelude.{ℕ, zero, suc, List, [], ◌∷◌, ◌++◌, Option, Some, None}
use Rattle.calculus.specs.declared.plain.Origin.{Origin}
use Rattle.calculus.specs.declared.plain.Origin.TheVariants as origins
use Rattle.calculus.specs.Tree.{Label, new, match, bundle, unary, binary, method, Tree, node, Trees, none, also}
use Rattle.calculus.specs.Shape.{held, listed, at}
use Rattle.calculus.specs.Normal.{ascending}
use Rattle.calculus.specs.Substitution.{put}
use Rattle.calculus.specs.Outcome.{Prices, Answer, gives, fails, unknown, within_limits, over, within, capped}
use Rattle.calculus.specs.Matching.{Bindings, first_match}
use Rattle.calculus.specs.Values.{value}
use Rattle.calculus.specs.Log.{Step}
use Rattle.calculus.specs.Root.{root}
use Rattle.calculus.specs.Seeds.{Seed, System, Start, Split, Body, Fresh, Comm, message, digest_of}
use Rattle.calculus.specs.Unfolding.{Product, names_made, unfold_in}
use Rattle.calculus.specs.Steps.{Meeting, meeting}
use Rattle.calculus.specs.Runs.{source_seed, Deploy, Work, State, body_work, step_from, first_state}

-- how the texts are listed that are hashed when a process is unfolded with a digest
abbrev pub TextLister : Type 0
TextLister = Tree → List ℕ → List (List ℕ)

-- of a process that an answer gives
abbrev pub given_texts : TextLister → List ℕ → Answer Tree → List (List ℕ)
given_texts again s (gives t) = again t s
given_texts again s (fails f) = []
given_texts again s unknown = []

-- of a body under bindings
abbrev pub under_texts : TextLister → List ℕ → List Tree → Tree → List (List ℕ)
under_texts again s vs body = given_texts again s (within_limits (put vs body))

-- of a case with this first match and this body, or else of the next ones
abbrev pub fitting_texts : TextLister → List ℕ → Option Bindings → Tree → List (List ℕ) → List (List ℕ)
fitting_texts again s (Some vs) body next = under_texts again s vs body
fitting_texts again s None body next = next

-- of the first case that a value fits
abbrev pub cases_texts : TextLister → List ℕ → Tree → List Tree → List (List ℕ)
cases_texts again s v [] = []
cases_texts again s v (c ∷ cs) = fitting_texts again s (first_match (at 0 (held c)) v) (at 1 (held c)) (cases_texts again s v cs)

-- of the cases, where there is a target
abbrev pub target_texts : TextLister → List ℕ → List Tree → Answer Tree → List (List ℕ)
target_texts again s cs (gives v) = cases_texts again s v cs
target_texts again s cs (fails f) = []
target_texts again s cs unknown = []

-- of the names of a `new`, of which the first is number k
abbrev pub name_texts : List ℕ → ℕ → List Origin → List (List ℕ)
name_texts t k [] = []
name_texts t k (origins.Plain ∷ os) = message (Fresh t k) ∷ name_texts t (suc k) os
name_texts t k (o ∷ os) = name_texts t (suc k) os

-- of what a part of this form with these constituents offers, with its digest t
abbrev pub part_texts : Prices → TextLister → List ℕ → Label → Trees → List (List ℕ)
part_texts p again t (new os) (also body none) = name_texts t 0 os ++ (message (Body t) ∷ again (put (names_made t 0 os) body) (digest_of (Body t)))
part_texts p again t match (also target (also (node l cs) none)) = message (Body t) ∷ target_texts again (digest_of (Body t)) (listed cs) (value p target).answer
part_texts p again t (bundle r) (also body none) = message (Body t) ∷ again body (digest_of (Body t))
part_texts p again t (unary o) ts = message (Body t) ∷ given_texts again (digest_of (Body t)) (value p (node (unary o) ts)).answer
part_texts p again t (binary o) ts = message (Body t) ∷ given_texts again (digest_of (Body t)) (value p (node (binary o) ts)).answer
part_texts p again t (method n) ts = message (Body t) ∷ given_texts again (digest_of (Body t)) (value p (node (method n) ts)).answer
part_texts p again t l ts = []

-- of a part
abbrev pub texts_of_part : Prices → TextLister → List ℕ → Tree → List (List ℕ)
texts_of_part p again t (node l ts) = part_texts p again t l ts

-- of these parts under the digest s, the first of them part number i
abbrev pub parts_texts : Prices → TextLister → List ℕ → ℕ → List Tree → List (List ℕ)
parts_texts p again s i [] = []
parts_texts p again s i (t ∷ ts) = message (Split s i) ∷ (texts_of_part p again (digest_of (Split s i)) t ++ parts_texts p again s (suc i) ts)

-- of a process, where at most `room` processes are unfolded inside one another
unfoldable pub texts_in : Prices → ℕ → TextLister
texts_in p zero t s = []
texts_in p (suc room) t s = parts_texts p (texts_in p room) s 0 (ascending (held t))

-- what an answer leaves of these texts: all of them with a result, none with a fault
abbrev pub result_texts : Answer (List Product) → List (List ℕ) → List (List ℕ)
result_texts (gives ts) xs = xs
result_texts (fails f) xs = []
result_texts unknown xs = []

-- what work leaves of the texts of its unfolding: none where it makes nothing, with a fault or beyond the cap
abbrev pub work_texts : Option Work → List (List ℕ) → List (List ℕ)
work_texts None xs = []
work_texts (Some over) xs = []
work_texts (Some (within o)) xs = result_texts o.answer xs

-- of the source's unfolding
abbrev pub source_texts : Prices → ℕ → ℕ → Tree → List ℕ → List (List ℕ)
source_texts p cap room t s = work_texts (capped cap (unfold_in p room t s)) (texts_in p room t s)

-- the seed of what a step's body makes
abbrev pub step_seed : Step → Seed
step_seed u = Comm u.receiver u.data_ids u.repeat

-- of the body of a step that is made so
abbrev pub body_texts : Prices → ℕ → ℕ → Step → Option Meeting → List (List ℕ)
body_texts p cap room s None = []
body_texts p cap room s (Some m) = work_texts (body_work p cap room s m) (under_texts (texts_in p room) (digest_of (step_seed s)) m.bindings m.receiver.body)

-- of the steps after a state, where there is one
abbrev pub steps_texts : Prices → ℕ → ℕ → Option State → List Step → List (List ℕ)
steps_texts p cap room o [] = []
steps_texts p cap room None (s ∷ ss) = []
steps_texts p cap room (Some a) (s ∷ ss) = message (step_seed s) ∷ (body_texts p cap room s (meeting a.bag a.made s) ++ steps_texts p cap room (step_from p cap room a s) ss)

-- of what is built in
abbrev pub built_in_texts : List (List ℕ)
built_in_texts = message (System 2) ∷ message (System 3) ∷ message (System 0) ∷ message (System 1) ∷ []

-- the texts that a deploy with these steps hashes for what it makes: of the seeds of what is built in, of the source, of each step, and of all that stands between these and the digests made
abbrev pub hashed_texts : Deploy → ℕ → List Step → List (List ℕ)
hashed_texts deploy room ss =
    built_in_texts
    ++ (message (Start (root deploy.rows) deploy.source)
    ∷ (source_texts deploy.prices deploy.limit room deploy.process (source_seed deploy) ++ steps_texts deploy.prices deploy.limit room (first_state deploy room) ss))
