-- Where the channel stands in the code of a send.
use Rattle.std.proofs.Common.{◌≡◌, ◌≤◌, ◌+◌, ℕ, Bool, List, [], ◌∷◌, ◌++◌, length, take, drop, sym, ap, ◌∙◌, arith, append-nil, length-append}
use Rattle.std.specs.declared.alloc.Global.{Global}
use Rattle.std.specs.declared.vec.Vec.{Vec}
use Rattle.std.proofs.Math.Seq.{drop-append_seam, take-append_seam}
use Rattle.sha2.specs.Sha256.{sha256}
use Rattle.calculus.specs.declared.ids.Digest.{Digest}
use Rattle.calculus.specs.Bytes.{be32}
use Rattle.calculus.specs.Code.{byte_of, code}
use Rattle.calculus.specs.Order.{sorted, placed}
use Rattle.calculus.specs.Root.{group_code, key}
use Rattle.calculus.specs.Rows.{Row, row_code}
use Rattle.calculus.specs.Shape.{many}
use Rattle.calculus.specs.Storing.{IsStorable}
use Rattle.calculus.specs.Tree.{Tree, row}
use Rattle.rho_term.specs.declared.op.Op.TheVariants as op
use Rattle.rho_term.specs.Rows.{row_of_op}

-- the code of the list of one code
pub one-code : (c : List ℕ) → group_code (c ∷ []) ≡ 0 ∷ 0 ∷ 0 ∷ 1 ∷ c
unfolding be32 sorted placed
one-code c = ap (λ (zs : List ℕ). 0 ∷ 0 ∷ 0 ∷ 1 ∷ zs) (append-nil c)

module _ (r : Row) (id : Digest) (c : Tree) (xs : Vec Tree Global) (q : Bool) (e : r ≡ row_of_op (op.Produce id c xs q)) where
  -- the key of the group of a send
  pub sent-key : key r ≡ sha256 (group_code (code c ∷ []))
  unfolding key
  sent-key = ap key e

  module _ (s : IsStorable r) (bs : List ℕ) (k : bs ≡ row_code r) where
    abbrev back : List ℕ
    back = byte_of q ∷ code (many row xs.items)

    -- the code of a send has that of its channel behind a byte and the id
    is-send : bs ≡ (0x01 ∷ id.0) ++ (code c ++ back)
    is-send = k ∙ ap row_code e

    wide : length (0x01 ∷ id.0) ≡ 33
    wide = let w : length id.0 ≡ 32 = ap (λ (x : Row). length x.id) (sym e) ∙ s.id.0 in omega (arith, w)

    pub channel-within : 33 + length (code c) ≤ length bs
    channel-within = omega (arith, wide, ap length is-send, length-append (0x01 ∷ id.0) (code c ++ back), length-append (code c) back)

    pub channel-there : take (length (code c)) (drop 33 bs) ≡ code c
    channel-there =
        ap (λ n. take (length (code c)) (drop n bs)) (sym wide) ∙ ap (λ l. take (length (code c)) (drop (length (0x01 ∷ id.0)) l)) is-send
        ∙ ap (take (length (code c))) (drop-append_seam (0x01 ∷ id.0) (code c ++ back)) ∙ take-append_seam (code c) back
