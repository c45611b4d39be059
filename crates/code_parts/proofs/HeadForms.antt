-- Forms of processes by what stands before these.
use Rattle.std.proofs.Common.{◌≡◌, ℕ, ◌+◌, List, ◌∷◌, ◌++◌, sym, subst}
use Rattle.std.specs.Prelude.{true, string_bytes}
use Rattle.calculus.specs.Tree.{Tree, binary}
use Rattle.calculus.specs.Shape.{one, two}
use Rattle.calculus.specs.Form.{Scope, term, part, row_of}
use Rattle.calculus.specs.declared.plain.BinaryOp.{BinaryOp}
use Rattle.code_faults.specs.declared.fault.ReadFault.{ReadFault}
use Rattle.code_faults.specs.Reading.{Reads}
use Rattle.code_parts.specs.declared.heads.Single.{Single}
use Rattle.code_parts.specs.declared.heads.Single.TheVariants as single
use Rattle.code_parts.specs.declared.heads.Listed.{Listed}
use Rattle.code_parts.specs.declared.heads.Listed.TheVariants as listed
use Rattle.code_parts.specs.declared.heads.Head.{Head}
use Rattle.code_parts.specs.declared.heads.Head.TheVariants as head
use Rattle.code_parts.specs.Heads.{single_code, single_label, listed_code, listed_label, IsNamed, head_code, HasName}
use Rattle.code_parts.specs.Outcomes.{Fails, FailsRow, ReadsPart}
use Rattle.code_parts.proofs.Failing.{tag-fails}
use Rattle.code_parts.proofs.Formed.{send-form, bundle-form, unary-form, binary-form, method-form}
use Rattle.code_parts.proofs.FormFailures.{send-channel-fails, send-args-fails, bundle-body-fails, unary-arg-fails, binary-left-fails, binary-right-fails, method-target-fails, method-args-fails}

lead : {x y : ℕ} {a b : List ℕ} → x ∷ a ≡ y ∷ b → x ≡ y
lead e = cc

behind : {x y : ℕ} {a b : List ℕ} → x ∷ a ≡ y ∷ b → a ≡ b
behind e = cc

-- what a head is
pub code-at : {g : Head} (h : Head) {x : List ℕ} (b : List ℕ) → g ≡ h → x ≡ head_code g ++ b → x ≡ head_code h ++ b
code-at h {x = x} b e p = subst (λ (y : Head). x ≡ head_code y ++ b) e p

pub name-at : {g : Head} (h : Head) → g ≡ h → HasName g → HasName h
name-at h e p = subst (λ (y : Head). HasName y) e p

part-as : {v : Scope} {room : ℕ} {bs c : List ℕ} {p t : Tree} → p ≡ t → ReadsPart part v room bs c t → ReadsPart part v room bs c p
part-as {v = v} {room = room} {bs = bs} {c = c} e h = subst (λ (x : Tree). ReadsPart part v room bs c x) (sym e) h

module _ {v : Scope} {room tag : ℕ} {t p : Tree} {a b c : List ℕ} where
  pub single-read : (h : Single) → p ≡ one (single_label h) t → tag ∷ a ≡ single_code h ++ b → Reads term v room t b c → ReadsPart part v (room + 1) (tag ∷ a) c p
  single-read (single.Bundle r) e q h = part-as e (record { reads = bundle-form r tag (lead q) (behind q) h; ordered = tt })
  single-read (single.Unary o) e q h = part-as e (record { reads = unary-form o tag (lead q) (behind q) h; ordered = tt })

  pub listed-read : {u : Tree} {d : List ℕ} (h : Listed) → IsNamed h → p ≡ two (listed_label h) t u → tag ∷ a ≡ listed_code h ++ b → Reads term v room t b c → Reads (row_of term) v room u c d
      → ReadsPart part v (room + 1) (tag ∷ a) d p
  listed-read (listed.Send x) w e q h g = part-as e (record { reads = send-form x tag (lead q) (behind q) h g; ordered = tt })
  listed-read (listed.Method n) w e q h g = part-as e (record { reads = method-form (string_bytes n) tag (lead q) (behind q) w h g; ordered = tt })

pub binary-read : {v : Scope} {room tag : ℕ} {t u : Tree} {a b c d : List ℕ} (o : BinaryOp) → tag ∷ a ≡ head_code (head.Binary o) ++ b → Reads term v room t b c → Reads term v room u c d
    → Reads part v (room + 1) (two (binary o) t u) (tag ∷ a) d
binary-read {tag = tag} o q h g = binary-form o tag (lead q) (behind q) h g

module _ {v : Scope} {room tag : ℕ} {e : ReadFault} {a b : List ℕ} where
  pub single-fails : (h : Single) → tag ∷ a ≡ single_code h ++ b → Fails true term v room b e → Fails true part v (room + 1) (tag ∷ a) e
  single-fails (single.Bundle r) q h = tag-fails tag 0x34 (lead q) (bundle-body-fails r (behind q) h)
  single-fails (single.Unary o) q h = tag-fails tag 0x40 (lead q) (unary-arg-fails o (behind q) h)

  pub listed-first-fails : (h : Listed) → IsNamed h → tag ∷ a ≡ listed_code h ++ b → Fails true term v room b e → Fails true part v (room + 1) (tag ∷ a) e
  listed-first-fails (listed.Send x) w q h = tag-fails tag 0x30 (lead q) (send-channel-fails x (behind q) h)
  listed-first-fails (listed.Method n) w q h = tag-fails tag 0x42 (lead q) (method-target-fails (string_bytes n) w (behind q) h)

  pub listed-args-fails : {t : Tree} {c : List ℕ} (h : Listed) → IsNamed h → tag ∷ a ≡ listed_code h ++ b → Reads term v room t b c → FailsRow true term v room 0 0xFFFFFFFF c e
      → Fails true part v (room + 1) (tag ∷ a) e
  listed-args-fails (listed.Send x) w q r h = tag-fails tag 0x30 (lead q) (send-args-fails x (behind q) r h)
  listed-args-fails (listed.Method n) w q r h = tag-fails tag 0x42 (lead q) (method-args-fails (string_bytes n) w (behind q) r h)

  pub binary-first-fails : (o : BinaryOp) → tag ∷ a ≡ head_code (head.Binary o) ++ b → Fails true term v room b e → Fails true part v (room + 1) (tag ∷ a) e
  binary-first-fails o q h = tag-fails tag 0x41 (lead q) (binary-left-fails o (behind q) h)

  pub binary-second-fails : {t : Tree} {c : List ℕ} (o : BinaryOp) → tag ∷ a ≡ head_code (head.Binary o) ++ b → Reads term v room t b c → Fails true term v room c e → Fails true part v (room + 1) (tag ∷ a) e
  binary-second-fails o q r h = tag-fails tag 0x41 (lead q) (binary-right-fails o (behind q) r h)
