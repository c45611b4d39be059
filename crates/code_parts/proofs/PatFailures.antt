-- What a fault in a field of a part of a pattern, of a case or of a bind says of it.
use Rattle.std.proofs.Common.{◌≡◌, ℕ, ◌+◌, ◌≤◌, List, [], ◌∷◌, ◌++◌, length, reverse}
use Rattle.std.specs.Prelude.{Bool, true, false}
use Rattle.calculus.specs.Kinds.{rights_number}
use Rattle.calculus.specs.declared.plain.Rights.{Rights}
use Rattle.calculus.specs.Tree.{row, Tree}
use Rattle.calculus.specs.Shape.{many}
use Rattle.calculus.specs.Code.{byte_of}
use Rattle.calculus.specs.Form.{Scope, Sort, term, a_bind, a_case, pat, name_pat, pat_part, row_of, pair_of}
use Rattle.calculus.specs.Variables.{bound}
use Rattle.code_faults.specs.declared.fault.ReadFault.{ReadFault}
use Rattle.code_faults.specs.Reading.{Reads}
use Rattle.code_faults.specs.Beginning.{IsAt}
use Rattle.code_faults.specs.Refusing.{RefusesByte, RefusesRest}
use Rattle.code_faults.specs.Blaming.{Wrong, InByte, InRest}
use Rattle.code_faults.proofs.Kids.{pair-first, pair-second}
use Rattle.code_faults.proofs.PatRefusals.{tuple_pattern-refused}
use Rattle.code_faults.proofs.PatExits.{list-members, list-rest, set-members, set-rest, map-pairs, map-rest, pat_send-flag, pat_send-channel, pat_send-args, pat_bundle-rights, pat_bundle-body, same-body, both-left, both-right, either-left, either-right, not-body, case-pattern, case-body, bind-channel, bind-patterns, bind-rest}
use Rattle.code_faults.proofs.BlamedRows.{pair-first_blamed, pair-second_blamed}
use Rattle.code_faults.proofs.BlamedPatExits.{list-members_wrong, list-rest_wrong, tuple_pattern_wrong, set-members_wrong, set-rest_wrong, map-pairs_wrong, map-rest_wrong, pat_send-flag_wrong, pat_send-channel_wrong, pat_send-args_wrong, pat_bundle-rights_wrong, pat_bundle-body_wrong, same-body_wrong, both-left_wrong, both-right_wrong, either-left_wrong, either-right_wrong, not-body_wrong, case-pattern_wrong, case-body_wrong, bind-channel_wrong, bind-patterns_wrong, bind-rest_wrong}
use Rattle.code_faults.proofs.Begins.{Filler}
use Rattle.code_faults.proofs.BegunPats.{list-members_begun, list-rest_begun, tuple_pattern-begun, set-members_begun, set-rest_begun, map-pairs_begun, map-rest_begun, pat_send-flag_begun, pat_send-channel_begun, pat_send-args_begun, pat_bundle-rights_begun, pat_bundle-body_begun, same-body_begun, both-left_begun, both-right_begun, either-left_begun, either-right_begun, not-body_begun, pair-first_begun, pair-second_begun, case-pattern_begun, case-body_begun, bind-channel_begun, bind-patterns_begun, bind-rest_begun}
use Rattle.code_faults.proofs.Places.{goes-on, goes-here}
use Rattle.code_parts.specs.Outcomes.{Fails, FailsRow}

module _ {b : Bool} {v : Scope} {room : ℕ} {e : ReadFault} {bs : List ℕ} where
  pub list-members-fails : FailsRow b pat v room 0 0xFFFFFFFF bs e → Fails b pat_part v (room + 1) (0x20 ∷ bs) e
  list-members-fails h = record { wrong = list-members_wrong h.wrong; refuses = list-members h.refuses; begun = λ s. goes-on (h.begun s) (λ z g. list-members_begun g) }

  pub tuple_pattern-fails : FailsRow b pat v room 1 0xFFFFFFFF bs e → Fails b pat_part v (room + 1) (0x21 ∷ bs) e
  tuple_pattern-fails h = record { wrong = tuple_pattern_wrong h.wrong; refuses = tuple_pattern-refused _ h.refuses; begun = λ s. goes-on (h.begun s) (λ z g. tuple_pattern-begun g) }

  pub set-members-fails : FailsRow b pat v room 0 8 bs e → Fails b pat_part v (room + 1) (0x22 ∷ bs) e
  set-members-fails h = record { wrong = set-members_wrong h.wrong; refuses = set-members h.refuses; begun = λ s. goes-on (h.begun s) (λ z g. set-members_begun g) }

  pub map-pairs-fails : FailsRow b (pair_of pat) v room 0 8 bs e → Fails b pat_part v (room + 1) (0x23 ∷ bs) e
  map-pairs-fails h = record { wrong = map-pairs_wrong h.wrong; refuses = map-pairs h.refuses; begun = λ s. goes-on (h.begun s) (λ z g. map-pairs_begun g) }

  pub pat_send-channel-fails : {next : List ℕ} (q : Bool) → bs ≡ byte_of q ∷ next → Fails b name_pat v room next e → Fails b pat_part v (room + 1) (0x30 ∷ bs) e
  pat_send-channel-fails q i h = record { wrong = pat_send-channel_wrong i h.wrong; refuses = pat_send-channel i h.refuses; begun = λ s. goes-on (h.begun s) (λ z g. pat_send-channel_begun q i g) }

  pub pat_send-args-fails : {next last : List ℕ} {u : Tree} (q : Bool) → bs ≡ byte_of q ∷ next → Reads name_pat v room u next last → (b ≡ false → bound u ≡ []) → FailsRow b pat v room 0 0xFFFFFFFF last e → Fails b pat_part v (room + 1) (0x30 ∷ bs) e
  pat_send-args-fails q i c f h = record { wrong = pat_send-args_wrong i c h.wrong; refuses = pat_send-args i c h.refuses; begun = λ s. goes-on (h.begun s) (λ z g. pat_send-args_begun q i c f g) }

  pub pat_bundle-body-fails : {next : List ℕ} (r : Rights) → bs ≡ rights_number r ∷ next → Fails false pat v room next e → Fails b pat_part v (room + 1) (0x34 ∷ bs) e
  pat_bundle-body-fails r i h = record { wrong = pat_bundle-body_wrong i h.wrong; refuses = pat_bundle-body i h.refuses; begun = λ s. goes-on (h.begun s) (λ z g. pat_bundle-body_begun r i g) }

  pub same-body-fails : Fails true term v room bs e → Fails b pat_part v (room + 1) (0x53 ∷ bs) e
  same-body-fails h = record { wrong = same-body_wrong h.wrong; refuses = same-body h.refuses; begun = λ s. goes-on (h.begun s) (λ z g. same-body_begun g) }

  pub both-left-fails : Fails b pat v room bs e → Fails b pat_part v (room + 1) (0x54 ∷ bs) e
  both-left-fails h = record { wrong = both-left_wrong h.wrong; refuses = both-left h.refuses; begun = λ s. goes-on (h.begun s) (λ z g. both-left_begun g) }

  pub both-right-fails : {next : List ℕ} {u : Tree} → Reads pat v room u bs next → (b ≡ false → bound u ≡ []) → Fails b pat v room next e → Fails b pat_part v (room + 1) (0x54 ∷ bs) e
  both-right-fails c f h = record { wrong = both-right_wrong c h.wrong; refuses = both-right c h.refuses; begun = λ s. goes-on (h.begun s) (λ z g. both-right_begun c f g) }

  pub either-left-fails : Fails false pat v room bs e → Fails b pat_part v (room + 1) (0x55 ∷ bs) e
  either-left-fails h = record { wrong = either-left_wrong h.wrong; refuses = either-left h.refuses; begun = λ s. goes-on (h.begun s) (λ z g. either-left_begun g) }

  pub either-right-fails : {next : List ℕ} {u : Tree} → Reads pat v room u bs next → bound u ≡ [] → Fails false pat v room next e → Fails b pat_part v (room + 1) (0x55 ∷ bs) e
  either-right-fails c f h = record { wrong = either-right_wrong c h.wrong; refuses = either-right c h.refuses; begun = λ s. goes-on (h.begun s) (λ z g. either-right_begun c f g) }

  pub not-body-fails : Fails false pat v room bs e → Fails b pat_part v (room + 1) (0x56 ∷ bs) e
  not-body-fails h = record { wrong = not-body_wrong h.wrong; refuses = not-body h.refuses; begun = λ s. goes-on (h.begun s) (λ z g. not-body_begun g) }

  pub list-rest-fails : {next : List ℕ} {u : Tree} → Reads (row_of pat) v room u bs next → (b ≡ false → bound u ≡ []) → Wrong (InRest b) e next → RefusesRest b e next → IsAt e next → Fails b pat_part v (room + 1) (0x20 ∷ bs) e
  list-rest-fails c f w r i = record { wrong = list-rest_wrong room c w; refuses = list-rest c r; begun = λ s. goes-here _ (list-rest_begun c f) i }

  pub set-rest-fails : {next : List ℕ} (ts : List Tree) → Reads (row_of pat) v room (many row ts) bs next → (b ≡ false → bound (many row ts) ≡ []) → length ts ≤ 8 → Wrong (InRest b) e next → RefusesRest b e next → IsAt e next → Fails b pat_part v (room + 1) (0x22 ∷ bs) e
  set-rest-fails ts c f m w r i = record { wrong = set-rest_wrong room c w; refuses = set-rest c r; begun = λ s. goes-here _ (set-rest_begun ts c f m) i }

  pub map-rest-fails : {next : List ℕ} (ts : List Tree) → Reads (row_of (pair_of pat)) v room (many row ts) bs next → (b ≡ false → bound (many row ts) ≡ []) → length ts ≤ 8 → Wrong (InRest b) e next → RefusesRest b e next → IsAt e next → Fails b pat_part v (room + 1) (0x23 ∷ bs) e
  map-rest-fails ts c f m w r i = record { wrong = map-rest_wrong room c w; refuses = map-rest c r; begun = λ s. goes-here _ (map-rest_begun ts c f m) i }

-- the first field
module _ {b : Bool} {v : Scope} (room : ℕ) {e : ReadFault} {bs : List ℕ} where
  pub pat_send-flag-fails : Wrong (InByte 1) e bs → RefusesByte 1 e bs → IsAt e bs → Fails b pat_part v (room + 1) (0x30 ∷ bs) e
  pat_send-flag-fails w r i = record { wrong = pat_send-flag_wrong room w; refuses = pat_send-flag room r; begun = λ s. goes-here bs (pat_send-flag_begun room) i }

  pub pat_bundle-rights-fails : Wrong (InByte 3) e bs → RefusesByte 3 e bs → IsAt e bs → Fails b pat_part v (room + 1) (0x34 ∷ bs) e
  pat_bundle-rights-fails w r i = record { wrong = pat_bundle-rights_wrong room w; refuses = pat_bundle-rights room r; begun = λ s. goes-here bs (pat_bundle-rights_begun room) i }

-- a pair
module _ {b : Bool} {s : Sort} {v : Scope} {room : ℕ} {e : ReadFault} {bs : List ℕ} where
  pub pair-first-fails : Filler s v → Fails b s v room bs e → Fails b (pair_of s) v room bs e
  pair-first-fails k h = record { wrong = pair-first_blamed h.wrong; refuses = pair-first h.refuses; begun = λ t. goes-on (h.begun t) (λ z g. pair-first_begun k g) }

  pub pair-second-fails : {next : List ℕ} {u : Tree} → Reads s v room u bs next → (b ≡ false → bound u ≡ []) → Fails b s v room next e → Fails b (pair_of s) v room bs e
  pair-second-fails c f h = record { wrong = pair-second_blamed c h.wrong; refuses = pair-second c h.refuses; begun = λ t. goes-on (h.begun t) (λ z g. pair-second_begun c f g) }

-- a case and a bind
module _ {v : Scope} {room : ℕ} {e : ReadFault} {bs : List ℕ} where
  pub case-pattern-fails : Fails true pat v room bs e → Fails true a_case v room bs e
  case-pattern-fails h = record { wrong = case-pattern_wrong h.wrong; refuses = case-pattern h.refuses; begun = λ s. goes-on (h.begun s) (λ z g. case-pattern_begun g) }

  pub case-body-fails : {w : Scope} {next : List ℕ} {u : Tree} → Reads pat v room u bs next → w ≡ reverse (bound u) ++ v → Fails true term w room next e → Fails true a_case v room bs e
  case-body-fails c p h = record { wrong = case-body_wrong c p h.wrong; refuses = case-body c p h.refuses; begun = λ s. goes-on (h.begun s) (λ z g. case-body_begun c p g) }

  pub bind-channel-fails : Fails true term v room bs e → Fails true a_bind v room bs e
  bind-channel-fails h = record { wrong = bind-channel_wrong h.wrong; refuses = bind-channel h.refuses; begun = λ s. goes-on (h.begun s) (λ z g. bind-channel_begun g) }

  pub bind-patterns-fails : {next : List ℕ} {u : Tree} → Reads term v room u bs next → FailsRow true name_pat v room 0 0xFFFFFFFF next e → Fails true a_bind v room bs e
  bind-patterns-fails c h = record { wrong = bind-patterns_wrong c h.wrong; refuses = bind-patterns c h.refuses; begun = λ s. goes-on (h.begun s) (λ z g. bind-patterns_begun c g) }

  pub bind-rest-fails : {next last : List ℕ} {u t : Tree} → Reads term v room u bs next → Reads (row_of name_pat) v room t next last → Wrong (InRest true) e last → RefusesRest true e last → IsAt e last → Fails true a_bind v room bs e
  bind-rest-fails c d w r i = record { wrong = bind-rest_wrong c d w; refuses = bind-rest c d r; begun = λ s. goes-here _ (bind-rest_begun c d) i }
