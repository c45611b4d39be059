-- Parts whose constituents were read, one after another.
use Rattle.std.proofs.Common.{◌≡◌, ℕ, Bool, ◌+◌, List, [], ◌∷◌, ◌++◌, ap, sym, ◌∙◌, arith, append_assoc, append-nil}
use Rattle.calculus.specs.Kinds.{binary_op_number, rights_number, unary_op_number}
use Rattle.calculus.specs.declared.plain.BinaryOp.{BinaryOp}
use Rattle.calculus.specs.declared.plain.Rights.{Rights}
use Rattle.calculus.specs.declared.plain.UnaryOp.{UnaryOp}
use Rattle.calculus.specs.Tree.{row, list, set, dict, send, bundle, unary, binary, method, both, same, Tree}
use Rattle.calculus.specs.Shape.{one, two, many}
use Rattle.calculus.specs.Code.{byte_of, code, text}
use Rattle.calculus.specs.Form.{Scope, term, part, name_pat, pat, pat_part, row_of, pair_of}
use Rattle.code_faults.specs.Reading.{Reads, ReadsBag}
use Rattle.code_faults.specs.Texts.{HasForm}
use Rattle.code_faults.specs.declared.sort.TextKind.TheVariants as kind
use Rattle.code_faults.proofs.Forms.{two-codes}

pub one-code : (x d : List ℕ) {b : List ℕ} → b ≡ x ++ d → b ≡ (x ++ []) ++ d
one-code x d e = e ∙ ap (λ (zs : List ℕ). zs ++ d) (sym (append-nil x))

pub tagged : (tag k : ℕ) {a bs : List ℕ} → tag ≡ k → a ≡ bs → tag ∷ a ≡ k ∷ bs
tagged tag k {a = a} e f = ap (λ (x : ℕ). x ∷ a) e ∙ ap (λ (zs : List ℕ). k ∷ zs) f

pub list-form : {v : Scope} {room : ℕ} (ts : List Tree) {a c : List ℕ} (tag : ℕ) → tag ≡ 0x20 → Reads (row_of term) v room (many row ts) a c → Reads part v (room + 1) (many list ts) (tag ∷ a) c
list-form ts tag e h = record { is = tagged tag 0x20 e h.is; fits = (tt, h.fits.1); low = omega (arith, h.low) }

pub set-form : {v : Scope} {room : ℕ} (ts : List Tree) {a c : List ℕ} (tag : ℕ) → tag ≡ 0x22 → ReadsBag term v room ts a c → Reads part v (room + 1) (many set ts) (tag ∷ a) c
set-form ts tag e h = record { is = tagged tag 0x22 e h.is; fits = (tt, h.fits); low = omega (arith, h.low) }

pub map-form : {v : Scope} {room : ℕ} (ts : List Tree) {a c : List ℕ} (tag : ℕ) → tag ≡ 0x23 → ReadsBag (pair_of term) v room ts a c → Reads part v (room + 1) (many dict ts) (tag ∷ a) c
map-form ts tag e h = record { is = tagged tag 0x23 e h.is; fits = (tt, h.fits); low = omega (arith, h.low) }

pub send-form : {v : Scope} {room : ℕ} {t u : Tree} {a b c d : List ℕ} (p : Bool) (tag : ℕ) → tag ≡ 0x30 → a ≡ byte_of p ∷ b → Reads term v room t b c → Reads (row_of term) v room u c d → Reads part v (room + 1) (two (send p) t u) (tag ∷ a) d
send-form {t = t} {u = u} {d = d} p tag e f h g = record {
  is = tagged tag 0x30 e (f ∙ ap (λ (zs : List ℕ). byte_of p ∷ zs) (h.is ∙ two-codes (code t) (code u) d g.is));
  fits = (tt, (h.fits, (g.fits, tt)));
  low = omega (arith, h.low, g.low);
}

pub bundle-form : {v : Scope} {room : ℕ} {t : Tree} {a b c : List ℕ} (r : Rights) (tag : ℕ) → tag ≡ 0x34 → a ≡ rights_number r ∷ b → Reads term v room t b c → Reads part v (room + 1) (one (bundle r) t) (tag ∷ a) c
bundle-form {t = t} {c = c} r tag e f h = record {
  is = tagged tag 0x34 e (f ∙ ap (λ (zs : List ℕ). rights_number r ∷ zs) (one-code (code t) c h.is));
  fits = (tt, (h.fits, tt));
  low = omega (arith, h.low);
}

pub unary-form : {v : Scope} {room : ℕ} {t : Tree} {a b c : List ℕ} (o : UnaryOp) (tag : ℕ) → tag ≡ 0x40 → a ≡ unary_op_number o ∷ b → Reads term v room t b c → Reads part v (room + 1) (one (unary o) t) (tag ∷ a) c
unary-form {t = t} {c = c} o tag e f h = record {
  is = tagged tag 0x40 e (f ∙ ap (λ (zs : List ℕ). unary_op_number o ∷ zs) (one-code (code t) c h.is));
  fits = (tt, (h.fits, tt));
  low = omega (arith, h.low);
}

pub binary-form : {v : Scope} {room : ℕ} {t u : Tree} {a b c d : List ℕ} (o : BinaryOp) (tag : ℕ) → tag ≡ 0x41 → a ≡ binary_op_number o ∷ b → Reads term v room t b c → Reads term v room u c d → Reads part v (room + 1) (two (binary o) t u) (tag ∷ a) d
binary-form {t = t} {u = u} {d = d} o tag e f h g = record {
  is = tagged tag 0x41 e (f ∙ ap (λ (zs : List ℕ). binary_op_number o ∷ zs) (h.is ∙ two-codes (code t) (code u) d g.is));
  fits = (tt, (h.fits, (g.fits, tt)));
  low = omega (arith, h.low, g.low);
}

pub method-form : {v : Scope} {room : ℕ} {t u : Tree} {a b c d : List ℕ} (n : List ℕ) (tag : ℕ) → tag ≡ 0x42 → a ≡ text n ++ b → HasForm kind.Word n → Reads term v room t b c → Reads (row_of term) v room u c d → Reads part v (room + 1) (two (method n) t u) (tag ∷ a) d
method-form {t = t} {u = u} {d = d} n tag e f w h g = record {
  is = tagged tag 0x42 e (f ∙ ap (λ (zs : List ℕ). text n ++ zs) (h.is ∙ two-codes (code t) (code u) d g.is) ∙ sym (append_assoc (text n) (code t ++ (code u ++ [])) d));
  fits = (w, (h.fits, (g.fits, tt)));
  low = omega (arith, h.low, g.low);
}

pub same-form : {v : Scope} {room : ℕ} {t : Tree} {a c : List ℕ} (tag : ℕ) → tag ≡ 0x53 → Reads term v room t a c → Reads pat_part v (room + 1) (one same t) (tag ∷ a) c
same-form {t = t} {c = c} tag e h = record { is = tagged tag 0x53 e (one-code (code t) c h.is); fits = (tt, (h.fits, tt)); low = omega (arith, h.low) }

pub both-form : {v : Scope} {room : ℕ} {t u : Tree} {a c d : List ℕ} (tag : ℕ) → tag ≡ 0x54 → Reads pat v room t a c → Reads pat v room u c d → Reads pat_part v (room + 1) (two both t u) (tag ∷ a) d
both-form {t = t} {u = u} {d = d} tag e h g = record {
  is = tagged tag 0x54 e (h.is ∙ two-codes (code t) (code u) d g.is);
  fits = (tt, (h.fits, (g.fits, tt)));
  low = omega (arith, h.low, g.low);
}

pub pat_send-form : {v : Scope} {room : ℕ} {t u : Tree} {a b c d : List ℕ} (p : Bool) (tag : ℕ) → tag ≡ 0x30 → a ≡ byte_of p ∷ b → Reads name_pat v room t b c → Reads (row_of pat) v room u c d → Reads pat_part v (room + 1) (two (send p) t u) (tag ∷ a) d
pat_send-form {t = t} {u = u} {d = d} p tag e f h g = record {
  is = tagged tag 0x30 e (f ∙ ap (λ (zs : List ℕ). byte_of p ∷ zs) (h.is ∙ two-codes (code t) (code u) d g.is));
  fits = (tt, (h.fits, (g.fits, tt)));
  low = omega (arith, h.low, g.low);
}
