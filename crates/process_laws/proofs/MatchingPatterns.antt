-- Congruent patterns are alike, by induction on the pattern.
use Rattle.std.proofs.Common.{◌≡◌, ℕ, Bool, true, false, List, [], ◌∷◌, refl, sym, ap, subst}
use Rattle.std.specs.Prelude.{⊤}
use Rattle.std.specs.List.{AllZip}
use Rattle.std.proofs.lemmas.Bool.{false≢true}
use Rattle.calculus.specs.Tree.{Label, par, bool, int, str, uri, bytes, row, tuple, set, dict, pair, send, receive, new, match, bundle, pattern, any, some_process, some_name, simple, same, both, either, not_this, list_pattern, set_pattern, map_pattern, Tree, node, Trees, none, also}
use Rattle.calculus.specs.Shape.{held, label_of}
use Rattle.calculus.specs.Congruence.{is_bag}
use Rattle.calculus.specs.Code.{arranged}
use Rattle.calculus.specs.Form.{Sort, term, part, pat, name_pat, pat_part, name_part, row_of, pair_of, Kids, all, these, no_form, pat_kids, name_kids, kids}
use Rattle.calculus.specs.Matching.{Member, Piece, of_kind, wholes, piece_of, piece, pieces}
use Rattle.calculus.proofs.Known.{IsForm}
use Rattle.calculus.proofs.Formed.{Formed, Holds, is_form}
use Rattle.calculus.proofs.Keys.{key, key_all, equal_nodes}
use Rattle.process_laws.proofs.Zips.{zip-weaken}
use Rattle.process_laws.proofs.Bindings.{one-alike}
use Rattle.process_laws.proofs.Targets.{parts_tied, pair_tied}
use Rattle.process_laws.proofs.Ways.{Answers, Like, Thin, thin_like, parts-alike, items-alike}
use Rattle.process_laws.proofs.Forms.{PieceLike, PiecesLike, TurnLike, WholeLike, wholes-like, same_form, thin, wide, compared, bound-process, same-like, both-like, either-like, not-like, list-like, tuple-like, bag-like, send-like, bundle-like}

-- the whole of a form with constituents that are alike
abbrev Shaped : Label → Kids → (Member → Member → Type 0) → Type 0
Shaped l p R = (ts us : Trees) (ms ns : List Piece) → key_all ts ≡ key_all us → PiecesLike p ms ns → R (piece_of l ts ms).whole (piece_of l us ns).whole

any-like : Answers term (λ t. [] ∷ []) (λ t. [] ∷ [])
any-like t u h = (tt, tt)

part_like : (l : Label) → IsForm (pat_kids l) → Shaped l (pat_kids l) (Like part)
part_like (bool x) f ts us ms ns k h = thin _ _ refl refl (compared ts us ms ns k (bool x))
part_like (int x) f ts us ms ns k h = thin _ _ refl refl (compared ts us ms ns k (int x))
part_like (str x) f ts us ms ns k h = thin _ _ refl refl (compared ts us ms ns k (str x))
part_like (uri x) f ts us ms ns k h = thin _ _ refl refl (compared ts us ms ns k (uri x))
part_like (bytes x) f ts us ms ns k h = thin _ _ refl refl (compared ts us ms ns k (bytes x))
part_like (receive x) f ts us ms ns k h = thin _ _ refl refl (compared ts us ms ns k (receive x))
part_like (new x) f ts us ms ns k h = thin _ _ refl refl (compared ts us ms ns k (new x))
part_like match f ts us ms ns k h = thin _ _ refl refl (compared ts us ms ns k match)
part_like any f ts us ms ns k h = wide (piece_of any ts ms).whole (piece_of any us ns).whole refl refl any-like
part_like some_process f ts us ms ns k h =
    wide (piece_of some_process ts ms).whole (piece_of some_process us ns).whole refl refl (bound-process ts us ms ns k)
part_like (simple x) f ts us ms ns k h =
    thin _ _ refl refl (λ t u a. one-alike (of_kind x (label_of t)) (of_kind x (label_of u)) (ap (of_kind x) (same_form t u a.0)))
part_like same f ts us ms ns k h = wide _ _ refl refl (same-like ts us ms ns k)
part_like both f ts us ms ns k h = wide _ _ refl refl (both-like ts us ms ns k h)
part_like either f ts us ms ns k h = wide _ _ refl refl (either-like ts us ms ns k h)
part_like not_this f ts us ms ns k h = wide _ _ refl refl (not-like ts us ms ns k h)
part_like list_pattern f ts us ms ns k h = thin _ _ refl refl (list-like ts us ms ns k h)
part_like tuple f ts us ms ns k h = thin _ _ refl refl (tuple-like ts us ms ns k h)
part_like set_pattern f ts us ms ns k h =
    thin _ _ refl refl (bag-like ts us ms ns k set term pat (λ xs ys i. i) (thin_like term) h)
part_like map_pattern f ts us ms ns k h =
    thin _ _ refl refl (bag-like ts us ms ns k dict (pair_of term) (pair_of pat) (λ xs ys i. i) (thin_like (pair_of term)) h)
part_like (send x) f ts us ms ns k h = thin _ _ refl refl (send-like ts us ms ns k x h)
part_like (bundle x) f ts us ms ns k h = thin _ _ refl refl (bundle-like ts us ms ns k x h)
part_like _ f ts us ms ns k h = absurd f

name_like : (l : Label) → IsForm (name_kids l) → Shaped l (name_kids l) (Like part)
name_like some_name f ts us ms ns k h =
    wide (piece_of some_name ts ms).whole (piece_of some_name us ns).whole refl refl (bound-process ts us ms ns k)
name_like l f ts us ms ns k h = part_like l f ts us ms ns k h

-- a parallel pattern
module _ (s : Sort) (thins : (m n : Member) → WholeLike s m n → Like part m n) where
  parallel-like : Shaped pattern (all s) (Thin term)
  parallel-like ts us ms ns k h =
      (refl, refl, λ t u a. parts-alike (wholes ms) (wholes ns) (held t) (held u) (zip-weaken (WholeLike s) (Like part) thins (wholes ms) (wholes ns) (wholes-like s ms ns h)) (parts_tied t u a))

pair-like : Shaped pair (these (pat ∷ pat ∷ [])) (Thin (pair_of term))
pair-like ts us ms ns k h = (refl, refl, λ t u a. items-alike term (wholes ms) (wholes ns) (held t) (held u) (pair-wholes ms ns h) (pair_tied term t u a))
  where
    pair-wholes : (ms ns : List Piece) → TurnLike (pat ∷ pat ∷ []) ms ns → AllZip (Thin term) (wholes ms) (wholes ns)
    pair-wholes [] ns h = absurd h
    pair-wholes (m ∷ ms) [] h = absurd h
    pair-wholes (m ∷ []) (n ∷ ns) h = absurd h.1
    pair-wholes (m ∷ x ∷ ms) (n ∷ []) h = absurd h.1
    pair-wholes (m ∷ x ∷ []) (n ∷ y ∷ []) h = (h.0, (h.1.0, tt))
    pair-wholes (m ∷ x ∷ []) (n ∷ y ∷ z ∷ ns) h = absurd h.1.1
    pair-wholes (m ∷ x ∷ z ∷ ms) (n ∷ y ∷ ns) h = absurd h.1.1

no_bag : (l : Label) → IsForm (pat_kids l) → is_bag l ≡ false
no_bag par f = absurd f
no_bag set f = absurd f
no_bag dict f = absurd f
no_bag _ f = refl

no_name_bag : (l : Label) → IsForm (name_kids l) → is_bag l ≡ false
no_name_bag par f = absurd f
no_name_bag set f = absurd f
no_name_bag dict f = absurd f
no_name_bag _ f = refl

piece_like : (s : Sort) (l : Label) (ts us : Trees) (ms ns : List Piece) → IsForm (kids s l 0) → (is_bag l ≡ false → (key_all ts ≡ key_all us) × PiecesLike (kids s l 0) ms ns) → PieceLike s (piece_of l ts ms) (piece_of l us ns)
piece_like pat pattern ts us ms ns f h = parallel-like pat_part (λ m n k. k) ts us ms ns (h refl).0 (h refl).1
piece_like pat _ ts us ms ns f h = absurd f
piece_like name_pat pattern ts us ms ns f h = parallel-like name_part (λ m n k. k) ts us ms ns (h refl).0 (h refl).1
piece_like name_pat _ ts us ms ns f h = absurd f
piece_like pat_part l ts us ms ns f h = let k = h (no_bag l f) in part_like l f ts us ms ns k.0 k.1
piece_like name_part l ts us ms ns f h = let k = h (no_name_bag l f) in name_like l f ts us ms ns k.0 k.1
piece_like (pair_of pat) pair ts us ms ns f h = pair-like ts us ms ns (h refl).0 (h refl).1
piece_like (pair_of pat) _ ts us ms ns f h = absurd f
piece_like (pair_of s) l ts us ms ns f h = tt
piece_like (row_of s) row ts us ms ns f h = wholes-like s ms ns (h refl).1
piece_like (row_of s) _ ts us ms ns f h = absurd f
piece_like s l ts us ms ns f h = tt

unbag : (b : Bool) (cs ds : List (List ℕ)) → b ≡ false → arranged b cs ≡ arranged b ds → cs ≡ ds
unbag true cs ds e f = absurd (false≢true (sym e))
unbag false cs ds e f = f

-- any property of labels will do
abbrev pub IsAny : Label → Type 0
IsAny l = ⊤

mutual
  pub alike : (s : Sort) (p q : Tree) → Formed IsAny s p → key p ≡ key q → PieceLike s (piece p) (piece q)
  alike s (node l ts) (node m us) h e =
      let n = equal_nodes l m ts us e in
      subst (λ (x : Label). PieceLike s (piece_of l ts (pieces ts)) (piece_of x us (pieces us))) n.0
      (piece_like s l ts us (pieces ts) (pieces us) (is_form IsAny (kids s l 0) ts h.1)
      (λ b. let k = unbag (is_bag l) (key_all ts) (key_all us) b n.1 in (k, alike_all (kids s l 0) ts us h.1 k)))

  alike_all : (p : Kids) (ts us : Trees) → Holds IsAny p ts → key_all ts ≡ key_all us → PiecesLike p (pieces ts) (pieces us)
  alike_all (all s) none none h e = tt
  alike_all (all s) none (also u us) h e = cc
  alike_all (all s) (also t ts) none h e = cc
  alike_all (all s) (also t ts) (also u us) h e = (alike s t u h.0 (cc), alike_all (all s) ts us h.1 (cc))
  alike_all (these []) none none h e = tt
  alike_all (these []) none (also u us) h e = cc
  alike_all (these []) (also t ts) us h e = absurd h
  alike_all (these (s ∷ ss)) none us h e = absurd h
  alike_all (these (s ∷ ss)) (also t ts) none h e = cc
  alike_all (these (s ∷ ss)) (also t ts) (also u us) h e = (alike s t u h.0 (cc), alike_all (these ss) ts us h.1 (cc))
  alike_all no_form ts us h e = tt
