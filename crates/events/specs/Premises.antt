-- What is asked of a deploy, and what is shown where its digests are not fresh.
use Rattle.std.specs.Prelude.{◌≡◌, ◌≤◌, ◌^◌, ℕ, true, List, length, All}
use Rattle.calculus.specs.Form.{IsBytes, IsDigest}
use Rattle.calculus.specs.Log.{Step}
use Rattle.calculus.specs.Steps.{is_one_of}
use Rattle.events.specs.Collisions.{Collision}
use Rattle.events.specs.Numbers.{IsNumberable}
use Rattle.events.specs.HashedTexts.{hashed_texts}
use Rattle.calculus.specs.Runs.{Deploy}

-- what a deploy with these steps puts into texts has room there: four bytes number the parts and names of its source and its steps, the ids of its checkpoint are digests, and so many bytes are its source's digest
pub record FitsInTexts (deploy : Deploy) (ss : List Step) : Type 0 where
  pub numberable : IsNumberable deploy.process
  pub steps_fit : length ss ≤ 2 ^ 32
  pub ids_fit : All (λ r. IsDigest r.id) deploy.rows
  pub source_fits : IsBytes deploy.source

-- one of these digests is one of those
pub record Shares (xs ys : List (List ℕ)) : Type 0 where
  pub digest : List ℕ
  pub among : is_one_of digest xs ≡ true
  pub too : is_one_of digest ys ≡ true

-- among the texts that a deploy hashes, as far as they are known with some room, there is a collision
abbrev pub Collides : Deploy → List Step → Type 0
Collides deploy ss = (room : ℕ) × Collision (hashed_texts deploy room ss)
