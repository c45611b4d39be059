-- A call that only fetched.
use Rattle.std.specs.Prelude.{◌≡◌, ◌≤◌}
use Rattle.run_reports.specs.World.{World}

-- from one world to the next nothing was kept or put: fetches may have failed, and all else that is told is as it was
pub record HasFetched (a b : World) : Type 0 where
  pub files : b.files ≡ a.files
  pub fetches : a.fetches ≤ b.fetches
  pub keeps : b.keeps ≡ a.keeps
  pub bytes : b.bytes ≡ a.bytes
  pub puts : b.puts ≡ a.puts
