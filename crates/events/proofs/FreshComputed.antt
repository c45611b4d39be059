-- Proofs of the examples.
use Rattle.std.proofs.Common.{◌≡◌, ℕ, ◌+◌, ◌^◌, Bool, true, false, ◌&&◌, ◌||◌, List, [], ◌∷◌, ◌++◌, length, refl, sym, ap, subst, ◌∙◌, arith}
use Rattle.std.specs.Prelude.{ltb, Some, option_map}
use Rattle.std.specs.Int.{w32, to_be_bytes}
use Rattle.std.specs.Str.{bytes_eq}
use Rattle.std.proofs.lemmas.Bool.{ltb-true}
use Rattle.std.proofs.lemmas.List.Elements.{All-nil}
use Rattle.calculus.specs.Bytes.{be32, joined}
use Rattle.calculus.specs.Form.{IsBytes, IsDigest}
use Rattle.calculus.specs.Examples.{prices, first_path_source, first_path_digest, first_path_step}
use Rattle.calculus.specs.Log.{Step}
use Rattle.calculus.specs.Seeds.{digest_of, System}
use Rattle.calculus.specs.Steps.{is_one_of, differ}
use Rattle.calculus.specs.Runs.{deploy_of, State, state_after, Leads, made_digests}
use Rattle.calculus.proofs.Opened.{hashing}
use Rattle.calculus.proofs.States.{anyhow, on_the_way}
use Rattle.events.specs.Events.{built_in_ids, built_in_digests, FreshDigests}
use Rattle.events.proofs.Counts.{bytes_same}
use Rattle.events.specs.HashedTexts.{texts_in}
use Rattle.events.specs.Premises.{FitsInTexts, Shares}
use Rattle.events.specs.FreshExamples.{FreshExamples, HashedExamples, NumberExamples, NumbersNeedRoom}
use Rattle.events.proofs.Octets.{no-bytes, one-more-byte}
use Rattle.events.proofs.Numbering.{few-numberable}

-- whether the digests that a state made and those of what is built in differ
abbrev all_differ : State → Bool
all_differ a = differ (built_in_digests ++ made_digests a)

before : option_map all_differ (state_after (deploy_of prices 22 [] first_path_source first_path_digest) 9 []) ≡ Some true
unfolding hashing
before = refl

after : option_map all_differ (state_after (deploy_of prices 22 [] first_path_source first_path_digest) 9 (first_path_step ∷ [])) ≡ Some true
unfolding hashing
after = refl

-- the digests made by these steps differ
abbrev Differ : List Step → Type 0
Differ ss = (a : State) → Leads (deploy_of prices 22 [] first_path_source first_path_digest) ss a → all_differ a ≡ true

fresh : FreshDigests prices 22 first_path_source first_path_digest (first_path_step ∷ [])
fresh = on_the_way Differ first_path_step
    (anyhow (deploy_of prices 22 [] first_path_source first_path_digest) 9 [] all_differ true before)
    (anyhow (deploy_of prices 22 [] first_path_source first_path_digest) 9 (first_path_step ∷ []) all_differ true after)

-- whether each of these is a byte
abbrev are_bytes : List ℕ → Bool
are_bytes [] = true
are_bytes (b ∷ bs) = ltb b 256 && are_bytes bs

bytes-of : (bs : List ℕ) → are_bytes bs ≡ true → IsBytes bs
bytes-of [] e = no-bytes
bytes-of (b ∷ bs) e = go (ltb b 256) refl e (bytes-of bs)
  where
    go : (t : Bool) → ltb b 256 ≡ t → t && are_bytes bs ≡ true → (are_bytes bs ≡ true → IsBytes bs) → IsBytes (b ∷ bs)
    go true d f next = one-more-byte b bs (ltb-true b 256 d) (next f)
    go false d f next = cc f

fits : FitsInTexts (deploy_of prices 22 [] first_path_source first_path_digest) (first_path_step ∷ [])
fits = record {
  numberable = few-numberable first_path_source (omega arith) (omega arith);
  steps_fit = omega arith;
  ids_fit = All-nil (λ r. IsDigest r.id);
  source_fits = bytes-of first_path_digest refl;
}

pub fresh_examples : FreshExamples
unfolding hashing
fresh_examples = record { made = refl; differs = after; fresh = fresh; fits = fits }

-- one digest that is none of these shares none with them
not-shared : (x : List ℕ) (ys : List (List ℕ)) → is_one_of x ys ≡ false → Shares (x ∷ []) ys → ⊥
not-shared x ys e s = no (sym (subst (λ z. is_one_of z ys ≡ true) (same (bytes_eq s.digest x) refl s.among) s.too) ∙ e)
  where
    same : (b : Bool) → bytes_eq s.digest x ≡ b → b || false ≡ true → s.digest ≡ x
    same true f h = bytes_same s.digest x f
    same false f h = cc h

    no : true ≡ false → ⊥
    no e = cc e

no-id : is_one_of (digest_of (System 0)) built_in_ids ≡ false
unfolding hashing
no-id = refl

pub hashed_examples : HashedExamples
unfolding hashing texts_in
hashed_examples = record {
  first_path = refl;
  past_the_limit = refl;
  fault = refl;
  no_bytes = (refl, λ e. cc e);
  made_up = record { digest = digest_of (System 2); among = refl; too = refl };
  named = not-shared (digest_of (System 0)) built_in_ids no-id;
}

pub number_examples : NumberExamples
number_examples = record { two_names = refl; empty_code = refl; one_name = refl; few_nodes = refl }

wraps : (n : ℕ) → be32 (n + 2 ^ 32) ≡ be32 n
unfolding be32
wraps n = ap (to_be_bytes w32) (omega arith)

pub numbers_need_room : NumbersNeedRoom
numbers_need_room s xs n =
    (ap (λ (l : List ℕ). 0x03 ∷ (s ++ l)) (wraps n), (ap (λ (l : List ℕ). 0x05 ∷ (s ++ l)) (wraps n), ap (λ (l : List ℕ). 0x06 ∷ (s ++ (be32 (length xs) ++ (joined xs ++ l)))) (wraps n)))
