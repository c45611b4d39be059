-- What a fault in a field of a part says of the part.
use Rattle.std.proofs.Common.{◌≡◌, ℕ, ◌+◌, ◌<◌, ◌≤◌, ◌^◌, List, ◌∷◌, ◌++◌, map, length, reverse}
use Rattle.std.specs.Prelude.{Bool, true}
use Rattle.calculus.specs.Bytes.{be32}
use Rattle.calculus.specs.Kinds.{kind_number, rights_number, unary_op_number, binary_op_number, origin_number}
use Rattle.calculus.specs.declared.plain.Kind.{Kind}
use Rattle.calculus.specs.declared.plain.Rights.{Rights}
use Rattle.calculus.specs.declared.plain.UnaryOp.{UnaryOp}
use Rattle.calculus.specs.declared.plain.BinaryOp.{BinaryOp}
use Rattle.calculus.specs.declared.plain.Origin.{Origin}
use Rattle.calculus.specs.Tree.{row, Tree}
use Rattle.calculus.specs.Shape.{many}
use Rattle.calculus.specs.Code.{byte_of, text}
use Rattle.calculus.specs.Form.{Scope, term, part, a_bind, a_case, row_of, pair_of}
use Rattle.calculus.specs.Variables.{a_name, bound}
use Rattle.code_faults.specs.declared.fault.ReadFault.{ReadFault}
use Rattle.code_faults.specs.declared.sort.TextKind.TheVariants as kind
use Rattle.code_faults.specs.Texts.{HasForm}
use Rattle.code_faults.specs.Reading.{Reads}
use Rattle.code_faults.specs.Beginning.{HasPlace, IsAt, Goes, BegunOrigins, BegunText}
use Rattle.code_faults.specs.Refusing.{Denies, RefusesByte, RefusesOrigins}
use Rattle.code_faults.specs.Blaming.{Wrong, InByte, InText, InOrigins}
use Rattle.code_faults.proofs.PartRefusals.{list-refused, tuple-refused, set-refused, map-refused}
use Rattle.code_faults.proofs.Exits.{send-flag, send-channel, send-args, receive-kind, receive-binds, receive-body, new-origins, new-body, match-target, match-cases, bundle-rights, bundle-body, unary-op, unary-arg, binary-op, binary-left, binary-right, method-name, method-target, method-args}
use Rattle.code_faults.proofs.BlamedExits.{list_wrong, tuple_wrong, set_wrong, map_wrong, send-flag_wrong, send-channel_wrong, send-args_wrong, receive-kind_wrong, receive-binds_wrong, receive-body_wrong, new-origins_wrong, new-body_wrong, match-target_wrong, match-cases_wrong, bundle-rights_wrong, bundle-body_wrong, unary-op_wrong, unary-arg_wrong, binary-op_wrong, binary-left_wrong, binary-right_wrong, method-name_wrong, method-target_wrong, method-args_wrong}
use Rattle.code_faults.proofs.BegunForms.{list-begun, tuple-begun, set-begun, map-begun, send-flag_begun, send-channel_begun, send-args_begun, receive-kind_begun, receive-binds_begun, receive-body_begun, new-origins_begun, new-body_begun, match-target_begun, match-cases_begun, bundle-rights_begun, bundle-body_begun, unary-op_begun, unary-arg_begun, binary-op_begun, binary-left_begun, binary-right_begun, method-name_begun, method-target_begun, method-args_begun}
use Rattle.code_faults.proofs.Places.{goes-on, goes-here}
use Rattle.code_parts.specs.Outcomes.{Fails, FailsRow, FailsBag}

module _ {v : Scope} {room : ℕ} {e : ReadFault} {bs : List ℕ} where
  pub list-fails : FailsRow true term v room 0 0xFFFFFFFF bs e → Fails true part v (room + 1) (0x20 ∷ bs) e
  list-fails h = record { wrong = list_wrong h.wrong; refuses = list-refused _ h.refuses; begun = λ s. goes-on (h.begun s) (λ z g. list-begun g) }

  pub tuple-fails : FailsRow true term v room 1 0xFFFFFFFF bs e → Fails true part v (room + 1) (0x21 ∷ bs) e
  tuple-fails h = record { wrong = tuple_wrong h.wrong; refuses = tuple-refused _ h.refuses; begun = λ s. goes-on (h.begun s) (λ z g. tuple-begun g) }

  pub set-fails : FailsBag term v room bs e → Fails true part v (room + 1) (0x22 ∷ bs) e
  set-fails h = record { wrong = set_wrong h.wrong; refuses = set-refused _ h.refuses; begun = λ s. goes-on (h.begun s) (λ z g. set-begun g) }

  pub map-fails : FailsBag (pair_of term) v room bs e → Fails true part v (room + 1) (0x23 ∷ bs) e
  map-fails h = record { wrong = map_wrong h.wrong; refuses = map-refused _ h.refuses; begun = λ s. goes-on (h.begun s) (λ z g. map-begun g) }

  pub send-channel-fails : {next : List ℕ} (q : Bool) → bs ≡ byte_of q ∷ next → Fails true term v room next e → Fails true part v (room + 1) (0x30 ∷ bs) e
  send-channel-fails q i h = record { wrong = send-channel_wrong i h.wrong; refuses = send-channel i h.refuses; begun = λ s. goes-on (h.begun s) (λ z g. send-channel_begun q i g) }

  pub send-args-fails : {next last : List ℕ} {u : Tree} (q : Bool) → bs ≡ byte_of q ∷ next → Reads term v room u next last → FailsRow true term v room 0 0xFFFFFFFF last e → Fails true part v (room + 1) (0x30 ∷ bs) e
  send-args-fails q i c h = record { wrong = send-args_wrong i c h.wrong; refuses = send-args i c h.refuses; begun = λ s. goes-on (h.begun s) (λ z g. send-args_begun q i c g) }

  pub receive-binds-fails : {next : List ℕ} (k : Kind) → bs ≡ kind_number k ∷ next → FailsRow true a_bind v room 1 16 next e → Fails true part v (room + 1) (0x31 ∷ bs) e
  receive-binds-fails k i h = record { wrong = receive-binds_wrong i h.wrong; refuses = receive-binds i h.refuses; begun = λ s. goes-on (h.begun s) (λ z g. receive-binds_begun k i g) }

  pub receive-body-fails : {w : Scope} {next last : List ℕ} (ts : List Tree) (k : Kind) → bs ≡ kind_number k ∷ next → Reads (row_of a_bind) v room (many row ts) next last → w ≡ reverse (bound (many row ts)) ++ v → 1 ≤ length ts → length ts ≤ 16 → Fails true term w room last e → Fails true part v (room + 1) (0x31 ∷ bs) e
  receive-body-fails ts k i c p l m h = record { wrong = receive-body_wrong i c p h.wrong; refuses = receive-body i c p h.refuses; begun = λ s. goes-on (h.begun s) (λ z g. receive-body_begun ts k i c p l m g) }

  pub new-body-fails : {w : Scope} {next : List ℕ} (os : List Origin) → bs ≡ (be32 (length os) ++ map origin_number os) ++ next → w ≡ reverse (map (λ (o : Origin). a_name) os) ++ v → 1 ≤ length os → Fails true term w room next e → Fails true part v (room + 1) (0x32 ∷ bs) e
  new-body-fails os i p l h = record { wrong = new-body_wrong os i p h.wrong; refuses = new-body os i p h.refuses; begun = λ s. goes-on (h.begun s) (λ z g. new-body_begun os i p l g) }

  pub match-target-fails : Fails true term v room bs e → Fails true part v (room + 1) (0x33 ∷ bs) e
  match-target-fails h = record { wrong = match-target_wrong h.wrong; refuses = match-target h.refuses; begun = λ s. goes-on (h.begun s) (λ z g. match-target_begun g) }

  pub match-cases-fails : {next : List ℕ} {u : Tree} → Reads term v room u bs next → FailsRow true a_case v room 1 0xFFFFFFFF next e → Fails true part v (room + 1) (0x33 ∷ bs) e
  match-cases-fails c h = record { wrong = match-cases_wrong c h.wrong; refuses = match-cases c h.refuses; begun = λ s. goes-on (h.begun s) (λ z g. match-cases_begun c g) }

  pub bundle-body-fails : {next : List ℕ} (r : Rights) → bs ≡ rights_number r ∷ next → Fails true term v room next e → Fails true part v (room + 1) (0x34 ∷ bs) e
  bundle-body-fails r i h = record { wrong = bundle-body_wrong i h.wrong; refuses = bundle-body i h.refuses; begun = λ s. goes-on (h.begun s) (λ z g. bundle-body_begun r i g) }

  pub unary-arg-fails : {next : List ℕ} (o : UnaryOp) → bs ≡ unary_op_number o ∷ next → Fails true term v room next e → Fails true part v (room + 1) (0x40 ∷ bs) e
  unary-arg-fails o i h = record { wrong = unary-arg_wrong i h.wrong; refuses = unary-arg i h.refuses; begun = λ s. goes-on (h.begun s) (λ z g. unary-arg_begun o i g) }

  pub binary-left-fails : {next : List ℕ} (o : BinaryOp) → bs ≡ binary_op_number o ∷ next → Fails true term v room next e → Fails true part v (room + 1) (0x41 ∷ bs) e
  binary-left-fails o i h = record { wrong = binary-left_wrong i h.wrong; refuses = binary-left i h.refuses; begun = λ s. goes-on (h.begun s) (λ z g. binary-left_begun o i g) }

  pub binary-right-fails : {next last : List ℕ} {u : Tree} (o : BinaryOp) → bs ≡ binary_op_number o ∷ next → Reads term v room u next last → Fails true term v room last e → Fails true part v (room + 1) (0x41 ∷ bs) e
  binary-right-fails o i c h = record { wrong = binary-right_wrong i c h.wrong; refuses = binary-right i c h.refuses; begun = λ s. goes-on (h.begun s) (λ z g. binary-right_begun o i c g) }

  pub method-target-fails : {next : List ℕ} (x : List ℕ) → HasForm kind.Word x → bs ≡ text x ++ next → Fails true term v room next e → Fails true part v (room + 1) (0x42 ∷ bs) e
  method-target-fails x f i h = record { wrong = method-target_wrong x i h.wrong; refuses = method-target x i h.refuses; begun = λ s. goes-on (h.begun s) (λ z g. method-target_begun x f i g) }

  pub method-args-fails : {next last : List ℕ} {u : Tree} (x : List ℕ) → HasForm kind.Word x → bs ≡ text x ++ next → Reads term v room u next last → FailsRow true term v room 0 0xFFFFFFFF last e → Fails true part v (room + 1) (0x42 ∷ bs) e
  method-args-fails x f i c h = record { wrong = method-args_wrong x i c h.wrong; refuses = method-args x i c h.refuses; begun = λ s. goes-on (h.begun s) (λ z g. method-args_begun x f i c g) }

-- the first field
module _ {v : Scope} (room : ℕ) {e : ReadFault} {bs : List ℕ} where
  pub send-flag-fails : Wrong (InByte 1) e bs → RefusesByte 1 e bs → IsAt e bs → Fails true part v (room + 1) (0x30 ∷ bs) e
  send-flag-fails w r i = record { wrong = send-flag_wrong room w; refuses = send-flag room r; begun = λ s. goes-here bs (send-flag_begun room) i }

  pub receive-kind-fails : Wrong (InByte 2) e bs → RefusesByte 2 e bs → IsAt e bs → Fails true part v (room + 1) (0x31 ∷ bs) e
  receive-kind-fails w r i = record { wrong = receive-kind_wrong room w; refuses = receive-kind room r; begun = λ s. goes-here bs (receive-kind_begun room) i }

  pub bundle-rights-fails : Wrong (InByte 3) e bs → RefusesByte 3 e bs → IsAt e bs → Fails true part v (room + 1) (0x34 ∷ bs) e
  bundle-rights-fails w r i = record { wrong = bundle-rights_wrong room w; refuses = bundle-rights room r; begun = λ s. goes-here bs (bundle-rights_begun room) i }

  pub unary-op-fails : Wrong (InByte 1) e bs → RefusesByte 1 e bs → IsAt e bs → Fails true part v (room + 1) (0x40 ∷ bs) e
  unary-op-fails w r i = record { wrong = unary-op_wrong room w; refuses = unary-op room r; begun = λ s. goes-here bs (unary-op_begun room) i }

  pub binary-op-fails : Wrong (InByte 14) e bs → RefusesByte 14 e bs → IsAt e bs → Fails true part v (room + 1) (0x41 ∷ bs) e
  binary-op-fails w r i = record { wrong = binary-op_wrong room w; refuses = binary-op room r; begun = λ s. goes-here bs (binary-op_begun room) i }

  pub new-origins-fails : Wrong InOrigins e bs → RefusesOrigins e bs → (HasPlace e → Goes e (BegunOrigins bs)) → Fails true part v (room + 1) (0x32 ∷ bs) e
  new-origins-fails w r g = record { wrong = new-origins_wrong room w; refuses = new-origins room r; begun = λ s. goes-on (g s) (λ z j. new-origins_begun room j) }

  pub method-name-fails : Wrong (InText kind.Word) e bs → ((x : List ℕ) → HasForm kind.Word x → length x < 2 ^ 32 → Denies e bs (text x)) → (HasPlace e → Goes e (BegunText kind.Word bs)) → Fails true part v (room + 1) (0x42 ∷ bs) e
  method-name-fails w r g = record { wrong = method-name_wrong room w; refuses = method-name room r; begun = λ s. goes-on (g s) (λ z j. method-name_begun room j) }
