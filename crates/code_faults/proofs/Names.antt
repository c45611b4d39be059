-- Patterns of names, and wide parts of patterns by their tags.
use Rattle.std.proofs.Common.{◌≡◌, ℕ, Bool, true, false, cond, List, [], ◌∷◌, refl, ap, sym, ◌∙◌, arith}
use Rattle.calculus.specs.Bytes.{be32}
use Rattle.calculus.specs.Tree.{bool, int, str, uri, bytes, tuple, send, receive, new, match, bundle, pattern, any, some_process, some_name, simple, same, both, either, not_this, list_pattern, set_pattern, map_pattern, Tree, node, Trees, none, also}
use Rattle.calculus.specs.Shape.{leaf, many, label_of}
use Rattle.calculus.specs.Form.{Scope, Fits, Hold, all, pat, name_pat, pat_part, name_part}
use Rattle.calculus.specs.Variables.{Sense, is_wide}
use Rattle.code_faults.specs.Reading.{Reads}
use Rattle.code_faults.specs.Wide.{is_wide_tag}

-- a part of a pattern may be the one part of a name pattern
to_name : (v : Scope) (t : Tree) → Fits pat_part v t → Fits name_part v t
to_name v (node some_name ts) h = absurd h.1
to_name v (node (receive k) ts) h = h
to_name v (node _ ts) h = h

to_names : (v : Scope) (own : List Sense) (ts : Trees) → Hold (all pat_part) v own ts → Hold (all name_part) v own ts
to_names v own none h = tt
to_names v own (also t ts) h = (to_name v t h.0, to_names v own ts h.1)

to_either : (b : Bool) (v : Scope) (own : List Sense) (ts : Trees) → Hold (all pat_part) v own ts → Hold (cond b (all name_part) (all pat_part)) v own ts
to_either true v own ts h = to_names v own ts h
to_either false v own ts h = h

pub to_name_pat : (v : Scope) (t : Tree) → Fits pat v t → Fits name_pat v t
to_name_pat v (node pattern ts) h = (h.0, to_either _ v [] ts h.1)
to_name_pat v (node _ ts) h = absurd h.1

-- a pattern of processes is one of names
pub name-read : {v : Scope} {room : ℕ} {t : Tree} {a c : List ℕ} → Reads pat v room t a c → Reads name_pat v room t a c
name-read {v = v} {t = t} h = record { is = h.is; fits = to_name_pat v t h.fits; low = h.low }

-- the code of a name variable alone
pub name-variable : (v : Scope) (room : ℕ) (a c : List ℕ) → a ≡ 0 ∷ 0 ∷ 0 ∷ 1 ∷ 0x51 ∷ c → Reads name_pat v room (many pattern (leaf some_name ∷ [])) a c
unfolding be32
name-variable v room a c e = record { is = e; fits = ((omega arith, omega arith), ((tt, tt), tt)); low = omega arith }

-- the first byte
abbrev first : List ℕ → ℕ
first [] = 0
first (x ∷ xs) = x

same_tag : (tag k : ℕ) (w : Bool) → tag ≡ k → w ≡ is_wide_tag k → w ≡ is_wide_tag tag
same_tag tag k w e f = f ∙ ap (λ (x : ℕ). is_wide_tag x) (sym e)

-- a part of a pattern is wide where its tag says so
pub wide-tag : (v : Scope) (room : ℕ) (t : Tree) (tag : ℕ) (b c : List ℕ) → Reads pat_part v room t (tag ∷ b) c → is_wide (label_of t) ≡ is_wide_tag tag
wide-tag v room (node (bool x) ts) tag b c h = same_tag tag 0x10 false (ap first h.is) refl
wide-tag v room (node (int x) ts) tag b c h = same_tag tag 0x11 false (ap first h.is) refl
wide-tag v room (node (str x) ts) tag b c h = same_tag tag 0x12 false (ap first h.is) refl
wide-tag v room (node (uri x) ts) tag b c h = same_tag tag 0x13 false (ap first h.is) refl
wide-tag v room (node (bytes x) ts) tag b c h = same_tag tag 0x14 false (ap first h.is) refl
wide-tag v room (node any ts) tag b c h = same_tag tag 0x52 true (ap first h.is) refl
wide-tag v room (node some_process ts) tag b c h = same_tag tag 0x50 true (ap first h.is) refl
wide-tag v room (node (simple x) ts) tag b c h = same_tag tag 0x57 false (ap first h.is) refl
wide-tag v room (node same ts) tag b c h = same_tag tag 0x53 true (ap first h.is) refl
wide-tag v room (node both ts) tag b c h = same_tag tag 0x54 true (ap first h.is) refl
wide-tag v room (node either ts) tag b c h = same_tag tag 0x55 true (ap first h.is) refl
wide-tag v room (node not_this ts) tag b c h = same_tag tag 0x56 true (ap first h.is) refl
wide-tag v room (node list_pattern ts) tag b c h = same_tag tag 0x20 false (ap first h.is) refl
wide-tag v room (node tuple ts) tag b c h = same_tag tag 0x21 false (ap first h.is) refl
wide-tag v room (node set_pattern ts) tag b c h = same_tag tag 0x22 false (ap first h.is) refl
wide-tag v room (node map_pattern ts) tag b c h = same_tag tag 0x23 false (ap first h.is) refl
wide-tag v room (node (send x) ts) tag b c h = same_tag tag 0x30 false (ap first h.is) refl
wide-tag v room (node (bundle x) ts) tag b c h = same_tag tag 0x34 false (ap first h.is) refl
wide-tag v room (node (receive x) ts) tag b c h = same_tag tag 0x31 false (ap first h.is) refl
wide-tag v room (node (new x) ts) tag b c h = same_tag tag 0x32 false (ap first h.is) refl
wide-tag v room (node match ts) tag b c h = same_tag tag 0x33 false (ap first h.is) refl
wide-tag v room (node _ ts) tag b c h = absurd h.fits.1
