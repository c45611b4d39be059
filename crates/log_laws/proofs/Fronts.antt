-- The front of a log's text: its name, its header, and the number of its steps.
use Rattle.std.proofs.Common.{◌≡◌, ◌≤◌, ◌<◌, ℕ, suc, ◌-◌, ◌^◌, List, [], ◌∷◌, ◌++◌, length, ap, sym, ◌∙◌, subst, arith, append_assoc, length-append}
use Rattle.calculus.specs.Bytes.{be32, be64}
use Rattle.calculus.proofs.Tails.{length-be32, length-be64}
use Rattle.calculus.specs.Log.{Header, Step, header_text, log_text}
use Rattle.event_log.specs.Laws.{AreBytes, AreSteps, IsHeader}
use Rattle.log_laws.specs.Laws.{IsLog, IsCutLog}
use Rattle.log_laws.proofs.Lists.{same-front, same-four, bytes-append, bytes-none_32}
use Rattle.log_laws.proofs.Outcomes.{Cut, SoMany}
use Rattle.log_laws.proofs.Steps.{step_texts, same-steps}

pub length-header : (h : Header) → IsHeader h → length (header_text h) ≡ 111
length-header h k =
    omega (arith, length-append h.base (h.source ++ (h.prices ++ be64 h.limit)), length-append h.source (h.prices ++ be64 h.limit), length-append h.prices (be64 h.limit), length-be64 h.limit, k.base, k.source, k.prices)

-- headers and numbers of steps at the front of equal lists
pub same-header : (h g : Header) (x y : List ℕ) → IsHeader h → IsHeader g → header_text h ++ x ≡ header_text g ++ y → x ≡ y
same-header h g x y k l e = (same-front (header_text h) (header_text g) x y (length-header h k ∙ sym (length-header g l)) e).1

pub same-number : (h g : Header) (m k : ℕ) (x y : List ℕ) → IsHeader h → IsHeader g → m < 2 ^ 32 → k < 2 ^ 32 → header_text h ++ (be32 m ++ x) ≡ header_text g ++ (be32 k ++ y) → (m ≡ k) × (x ≡ y)
same-number h g m k x y i j p q e = same-four m k x y p q (same-header h g (be32 m ++ x) (be32 k ++ y) i j e)

-- what follows the text of a log
pub log-behind : (h : Header) (ss : List Step) (x : List ℕ) → log_text h ss ++ x ≡ header_text h ++ (be32 (length ss) ++ (step_texts ss ++ x))
log-behind h ss x = append_assoc (header_text h) (be32 (length ss) ++ step_texts ss) x ∙ ap (λ z. header_text h ++ z) (append_assoc (be32 (length ss)) (step_texts ss) x)

pub fits : (k : ℕ) → k ≤ 1048608 → k < 2 ^ 32
fits k h = omega (arith, h)

-- what stands behind the number of steps is that of the text of a log, and the numbers are one
pub same-body : (h : Header) (ss : List Step) (g : Header) (k : ℕ) (x y : List ℕ) → IsLog h ss → IsHeader g → k < 2 ^ 32 → log_text h ss ++ x ≡ header_text g ++ (be32 k ++ y) → (length ss ≡ k) × (step_texts ss ++ x ≡ y)
same-body h ss g k x y l j f e = same-number h g (length ss) k (step_texts ss ++ x) y l.header j (fits (length ss) l.few) f (sym (log-behind h ss x) ∙ e)

-- texts of logs at the front of equal lists leave the same
pub same-log : (h : Header) (ss : List Step) (g : Header) (ts : List Step) (x y : List ℕ) → IsLog h ss → IsLog g ts → log_text h ss ++ x ≡ log_text g ts ++ y → x ≡ y
same-log h ss g ts x y l m e =
    let b = same-body h ss g (length ts) x (step_texts ts ++ y) l m.header (fits (length ts) m.few) (e ∙ log-behind g ts y) in
    same-steps ss ts x y l.steps m.steps b.0 b.1

pub length-log : (h : Header) (ss : List Step) → IsLog h ss → 115 ≤ length (log_text h ss)
length-log h ss l =
    omega (arith, length-append (header_text h) (be32 (length ss) ++ step_texts ss), length-append (be32 (length ss)) (step_texts ss), length-be32 (length ss), length-header h l.header)

-- bytes that end within the text of a header
pub cut-header : (bs left : List ℕ) (h : Header) → IsHeader h → 1 ≤ length left → AreBytes left → header_text h ≡ bs ++ left → IsCutLog bs
cut-header bs left h k s b e =
    let none = be32 0 ++ [] in
    record {
      left = left ++ none;
      some = omega (arith, s, length-append left none);
      bytes = bytes-append left none b (bytes-append (be32 0) [] bytes-none_32 tt);
      whole = record { header = h; steps = []; log = record { header = k; steps = tt; few = omega arith }; is = ap (λ z. z ++ none) e ∙ append_assoc bs left none };
    }

-- bytes that end within the steps
pub cut-steps : (bs r : List ℕ) (h : Header) (k : ℕ) → IsHeader h → k ≤ 1048608 → bs ≡ header_text h ++ (be32 k ++ r) → Cut (SoMany AreSteps k) step_texts r → IsCutLog bs
cut-steps bs r h k i few e c =
    let to : log_text h c.thing ≡ header_text h ++ (be32 k ++ (r ++ c.left)) = ap (λ z. header_text h ++ (be32 z ++ step_texts c.thing)) c.fine.1 ∙ ap (λ z. header_text h ++ (be32 k ++ z)) c.is in
    let all : header_text h ++ (be32 k ++ (r ++ c.left)) ≡ bs ++ c.left =
    ap (λ z. header_text h ++ z) (sym (append_assoc (be32 k) r c.left)) ∙ sym (append_assoc (header_text h) (be32 k ++ r) c.left) ∙ ap (λ z. z ++ c.left) (sym e) in
    record {
      left = c.left;
      some = c.some;
      bytes = c.bytes;
      whole = record { header = h; steps = c.thing; log = record { header = i; steps = c.fine.0; few = subst (λ z. z ≤ 1048608) (sym c.fine.1) few }; is = to ∙ all };
    }

-- the place of a byte that others follow
pub place-of : (bs before after : List ℕ) (byte back : ℕ) → bs ≡ before ++ (byte ∷ after) → back ≡ suc (length after) → length bs - back ≡ length before
place-of bs before after byte back e p = omega (arith, ap length e, length-append before (byte ∷ after), p)
