-- The lines that report a run and a state.
use Rattle.std.specs.Prelude.{ℕ, List, [], ◌∷◌, ◌++◌, Option, Some, None, codes}
use Rattle.serde_json.specs.Data.{Data, null, unsigned, number, string, object, Members, member, no_members}
use Rattle.serde_json.specs.Written.{compact_text}
use Rattle.hex.specs.Hex.{encode_lower}
use Rattle.calculus.specs.Faults.{fault_name}
use Rattle.replays.specs.declared.verdict.Verdict.{Verdict}
use Rattle.replays.specs.declared.verdict.Verdict.TheVariants.{Done, Exhausted, Faulted}

-- what a report says: the verdict, the cost, the root of the state that is kept and the number of steps
pub record Report : Type 0 where
  pub verdict : Verdict
  pub cost : ℕ
  pub root : List ℕ
  pub steps : ℕ

-- the step of a fault: none for the source's own
abbrev pub step_data : Option ℕ → Data
step_data None = null
step_data (Some n) = number (unsigned n)

-- the members of a report on a run without a fault, in byte order of their keys
abbrev pub plain_members : ℕ → List ℕ → ℕ → List ℕ → Members
plain_members cost root steps verdict =
    member (codes "cost") (number (unsigned cost))
    (member (codes "root") (string root)
    (member (codes "steps") (number (unsigned steps))
    (member (codes "verdict") (string verdict) no_members)))

-- the members of a report on a run with a fault, in byte order of their keys
abbrev pub faulted_members : ℕ → List ℕ → List ℕ → Option ℕ → ℕ → Members
faulted_members cost fault root step steps =
    member (codes "cost") (number (unsigned cost))
    (member (codes "fault") (string fault)
    (member (codes "root") (string root)
    (member (codes "step") (step_data step)
    (member (codes "steps") (number (unsigned steps))
    (member (codes "verdict") (string (codes "faulted")) no_members)))))

-- the members of a report
abbrev pub report_members : Verdict → ℕ → List ℕ → ℕ → Members
report_members Done cost root steps = plain_members cost root steps (codes "done")
report_members Exhausted cost root steps = plain_members cost root steps (codes "exhausted")
report_members (Faulted step kind) cost root steps = faulted_members cost (fault_name kind) root step steps

-- the line of a report: compact JSON and a line feed
abbrev pub report_line : Report → List ℕ
report_line r = compact_text (object (report_members r.verdict r.cost (encode_lower r.root) r.steps)) ++ 10 ∷ []

-- the members of a report on a state, in byte order of their keys
abbrev pub state_members : List ℕ → ℕ → Members
state_members root rows =
    member (codes "root") (string root)
    (member (codes "rows") (number (unsigned rows)) no_members)

-- the line of a report on a state with this root and so many rows
abbrev pub state_line : List ℕ → ℕ → List ℕ
state_line root rows = compact_text (object (state_members (encode_lower root) rows)) ++ 10 ∷ []
