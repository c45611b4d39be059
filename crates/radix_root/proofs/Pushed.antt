-- One more node of a half byte.
use Rattle.std.proofs.Common.{◌≡◌, ℕ, suc, List, [], ◌∷◌, ◌++◌, length, ap, sym, ◌∙◌, append-nil, append_assoc}
use Rattle.radix_root.specs.Nodes.{Seen, leaves_of, NoneHas, IsPlace, AllHalf, IsNode, AreChildren, IsFork}

pub leaves-push : (cs : List Seen) (n : Seen) → leaves_of (cs ++ n ∷ []) ≡ leaves_of cs ++ n.leaves
leaves-push [] n = append-nil n.leaves
leaves-push (c ∷ cs) n = ap (λ ls. c.leaves ++ ls) (leaves-push cs n) ∙ sym (append_assoc c.leaves (leaves_of cs) n.leaves)

none-push : (h : ℕ) (cs : List Seen) (n : Seen) → NoneHas h cs → (n.half ≡ h → ⊥) → NoneHas h (cs ++ n ∷ [])
none-push h [] n a m = (m, tt)
none-push h (c ∷ cs) n a m = (a.0, none-push h cs n a.1 m)

children-push : (d : ℕ) (cs : List Seen) (n : Seen) → AreChildren d cs → NoneHas n.half cs → IsNode (suc d) n → AllHalf d n.half n.leaves → AreChildren d (cs ++ n ∷ [])
children-push d [] n a m w h = ((w, h, tt), tt)
children-push d (c ∷ cs) n a m w h = ((a.0.0, a.0.1, none-push c.half cs n a.0.2 (λ e. m.0 (sym e))), children-push d cs n a.1 m.1 w h)

pub fork-pushed : (d : ℕ) (cs : List Seen) (n : Seen) → IsFork d cs → NoneHas n.half cs → IsNode (suc d) n → AllHalf d n.half n.leaves → IsFork d (cs ++ n ∷ [])
fork-pushed d cs n f m w h = record { within = f.within; children = children-push d cs n f.children m w h }

-- one more node stands behind the others
pub place-pushed : (h : ℕ) (cs : List Seen) (n : Seen) → NoneHas h cs → n.half ≡ h → IsPlace h (cs ++ n ∷ []) (length cs)
place-pushed h [] n m e = e
place-pushed h (c ∷ cs) n m e = (m.0, place-pushed h cs n m.1 e)
