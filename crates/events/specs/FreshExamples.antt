-- Examples of digests that are made, of texts that are hashed, and of what numbers need.
use Rattle.std.specs.Prelude.{◌≡◌, ◌≢◌, ℕ, ◌+◌, ◌^◌, true, List, [], ◌∷◌, ◌++◌, Some, option_map, map as each}
use Rattle.calculus.specs.declared.plain.BinaryOp.TheVariants as op
use Rattle.calculus.specs.declared.plain.Origin.TheVariants as origins
use Rattle.calculus.specs.Tree.{new, Tree, weight}
use Rattle.calculus.specs.Examples.{prices, num, op_on, first_path_source, first_path_digest, first_path_step}
use Rattle.calculus.specs.Rows.{Row, stdout}
use Rattle.calculus.specs.Seeds.{digest_of, message, System, Start, Split, Body, Fresh, Comm}
use Rattle.calculus.specs.Root.{root}
use Rattle.calculus.specs.Steps.{differ}
use Rattle.calculus.specs.Runs.{deploy_of, made_digests, state_after}
use Rattle.sha2.specs.Sha256.{sha256}
use Rattle.events.specs.Events.{built_in_ids, built_in_digests, FreshDigests}
use Rattle.events.specs.Numbers.{full_codes, name_count, most_names}
use Rattle.events.specs.HashedTexts.{step_seed, built_in_texts, hashed_texts}
use Rattle.events.specs.Premises.{FitsInTexts, Shares}

-- the digest of the first path's only part, from the empty checkpoint
abbrev pub the_part : List ℕ
the_part = digest_of (Split (digest_of (Start (root []) first_path_digest)) 0)

-- the texts that are hashed for it: of what is built in, of the source, its only part, that part's name and body, the body's two parts, the step and the only part of its body
abbrev pub FirstPathTexts : Type 0
FirstPathTexts = hashed_texts (deploy_of prices 22 [] first_path_source first_path_digest) 9 (first_path_step ∷ [])
    ≡ message (System 2) ∷ message (System 3) ∷ message (System 0) ∷ message (System 1)
    ∷ message (Start (root []) first_path_digest)
    ∷ message (Split (digest_of (Start (root []) first_path_digest)) 0)
    ∷ message (Fresh the_part 0) ∷ message (Body the_part)
    ∷ message (Split (digest_of (Body the_part)) 0) ∷ message (Split (digest_of (Body the_part)) 1)
    ∷ message (step_seed first_path_step)
    ∷ message (Split (digest_of (step_seed first_path_step)) 0) ∷ []

-- for a source with this limit and this digest, without a step, nothing is hashed but for what is built in and for its start
abbrev pub HashesItsStart : ℕ → Tree → Type 0
HashesItsStart cap t = hashed_texts (deploy_of prices cap [] t first_path_digest) 9 [] ≡ built_in_texts ++ message (Start (root []) first_path_digest) ∷ []

-- lists of numbers that are no bytes collide: so a collision counts only among bytes
abbrev pub OtherListsCollide : Type 0
OtherListsCollide = (sha256 (0 ∷ []) ≡ sha256 (256 ∷ [])) × ◌≢◌ {A = List ℕ} (0 ∷ []) (256 ∷ [])

-- two seeds have one text where a number has no room in four bytes: then two digests are equal without a collision
abbrev pub NumbersNeedRoom : Type 0
NumbersNeedRoom = (s : List ℕ) (xs : List (List ℕ)) (n : ℕ)
    → (message (Split s (n + 2 ^ 32)) ≡ message (Split s n)) × ((message (Fresh s (n + 2 ^ 32)) ≡ message (Fresh s n)) × (message (Comm s xs (n + 2 ^ 32)) ≡ message (Comm s xs n)))

-- a row whose id is the name of the first built-in receiver's channel
abbrev pub named_row : Row
named_row = record { id = digest_of (System 0); part = stdout.part }

-- `new c in { c!(5) | for (@x <- c) { @"out"!(x) } }` and its step
pub record FreshExamples : Type 0 where
  -- the name c, the send and the receive under the body of the only part, and what the step's body sends
  pub made : option_map made_digests (state_after (deploy_of prices 22 [] first_path_source first_path_digest) 9 (first_path_step ∷ []))
      ≡ Some (digest_of (Fresh the_part 0) ∷ digest_of (Split (digest_of (Body the_part)) 0) ∷ digest_of (Split (digest_of (Body the_part)) 1) ∷ digest_of (Split (digest_of (Comm first_path_step.receiver first_path_step.data_ids 0)) 0) ∷ [])
  -- these and the digests of what is built in differ
  pub differs : option_map (λ a. differ (built_in_digests ++ made_digests a)) (state_after (deploy_of prices 22 [] first_path_source first_path_digest) 9 (first_path_step ∷ [])) ≡ Some true
  -- so they are fresh
  pub fresh : FreshDigests prices 22 first_path_source first_path_digest (first_path_step ∷ [])
  -- what is put into texts for it has room there
  pub fits : FitsInTexts (deploy_of prices 22 [] first_path_source first_path_digest) (first_path_step ∷ [])

-- which texts are hashed
pub record HashedExamples : Type 0 where
  -- the twelve of that deploy
  pub first_path : FirstPathTexts
  -- under a limit of 8, which the source passes, nothing is made
  pub past_the_limit : HashesItsStart 8 first_path_source
  -- nor with the fault of `1 / 0`
  pub fault : HashesItsStart 22 (op_on op.Div (num 1) (num 0))
  -- numbers that are no bytes
  pub no_bytes : OtherListsCollide
  -- a checkpoint made up to hold the id of a built-in receiver
  pub made_up : Shares (each (λ r. r.id) (stdout ∷ [])) built_in_ids
  -- one that holds the name of a built-in channel as a row's id shows nothing by that
  pub named : Shares (each (λ r. r.id) (named_row ∷ [])) built_in_ids → ⊥

-- how much has to be numbered
pub record NumberExamples : Type 0 where
  -- `new a, b in { .. }` declares two names
  pub two_names : name_count (new (origins.Plain ∷ origins.Stdout ∷ [])) ≡ 2
  -- an empty code needs no number
  pub empty_code : full_codes ([] ∷ (7 ∷ []) ∷ []) ≡ 1
  -- in the first path no `new` has more than one name
  pub one_name : most_names first_path_source ≡ 1
  -- and it has 25 nodes
  pub few_nodes : weight first_path_source ≡ 25
