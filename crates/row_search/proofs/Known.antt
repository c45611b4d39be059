-- What is known of the rows that operations are seen as.
use Rattle.std.proofs.Common.{◌≡◌, Bool, true, false, List, [], ◌∷◌, map as each, refl, sym, ap, ◌∙◌, subst, arith, inl, inr}
use Rattle.std.proofs.lemmas.List.Elements.{All-nil, All-cons, All-head, All-tail}
use Rattle.std.specs.Prelude.{All, ◌&&◌, ◌||◌, Some, is_some}
use Rattle.std.specs.declared.alloc.Global.{Global}
use Rattle.std.specs.declared.vec.Vec.{Vec}
use Rattle.calculus.specs.declared.plain.Kind.{Kind}
use Rattle.calculus.specs.declared.ids.Digest.{Digest}
use Rattle.calculus.specs.Tree.{Tree, node, trees, row, rest, bind, send, receive, none, also}
use Rattle.calculus.specs.Shape.{at, listed, many, leaf, only}
use Rattle.calculus.specs.Congruence.{congruent}
use Rattle.calculus.specs.Form.{term, a_bind}
use Rattle.calculus.specs.Rows.{Row, channels}
use Rattle.calculus.specs.Steps.{Datum, as_datum}
use Rattle.calculus.specs.Storing.{IsStorable}
use Rattle.calculus.proofs.Formed.{length-code}
use Rattle.rho_term.specs.declared.op.Op.{Op}
use Rattle.rho_term.specs.declared.op.Op.TheVariants as op
use Rattle.rho_term.specs.declared.term.TermBind.{TermBind}
use Rattle.rho_term.specs.Parts.{bind_tree}
use Rattle.rho_term.specs.Rows.{row_of_op}
use Rattle.space_row.proofs.Codes.{channels-receive}
use Rattle.match_targets.specs.Targets.{Ready, AllReady}
use Rattle.match_targets.proofs.Readying.{channel-ready, data-ready, bytes-cons, inside, all-ready}
use Rattle.process_laws.specs.StorableLaws.{AreApart}
use Rattle.process_laws.proofs.Channels.{storable_channels_are_apart}
use Rattle.process_laws.proofs.StorableLengths.{storable_rows_are_short}
use Rattle.row_search.specs.Rows.{is_one_channel, is_sent_on, is_heard_on, IsIn}
use Rattle.row_search.specs.Choices.{AllBindsReady}

-- the channels of binds
abbrev pub bind_channels : List TermBind → List Tree
bind_channels bs = each (λ b. b.channel) bs

-- a row that may be stored is, as a process, closed and short
pub ready-row : (r : Row) → IsStorable r → Ready term (only r.part)
ready-row r h = record { closed = h.closed; short = omega (arith, (storable_rows_are_short r h).1) }

-- what an operation is seen as
pub as-row : (r : Row) (o p : Op) → row_of_op o ≡ r → o ≡ p → r ≡ row_of_op p
as-row r o p e f = sym e ∙ ap row_of_op f

module _ (r : Row) (id : Digest) (c : Tree) (xs : Vec Tree Global) (q : Bool) (e : r ≡ row_of_op (op.Produce id c xs q)) (h : IsStorable r) where
  sent : Ready term (only (row_of_op (op.Produce id c xs q)).part)
  sent = subst (λ (s : Row). Ready term (only s.part)) e (ready-row r h)

  pub send-channel : Ready term c
  send-channel = channel-ready q c xs.items sent

  pub send-args : AllReady term xs.items
  send-args = data-ready q c xs.items sent

all-binds : (bs : List TermBind) → AllReady a_bind (each bind_tree bs) → AllBindsReady bs
all-binds [] h = All-nil (λ b. Ready a_bind (bind_tree b))
all-binds (b ∷ bs) h = All-cons (λ b. Ready a_bind (bind_tree b)) b bs h.0 (all-binds bs h.1)

module _ (r : Row) (id : Digest) (k : Kind) (bs : Vec TermBind Global) (body : Tree) (e : r ≡ row_of_op (op.Consume id k bs body)) (h : IsStorable r) where
  pub binds-ready : AllBindsReady bs.items
  binds-ready =
      let g : Ready term (only (row_of_op (op.Consume id k bs body)).part) = subst (λ (s : Row). Ready term (only s.part)) e (ready-row r h) in
      let ts = each bind_tree bs.items in
      all-binds bs.items
      (all-ready a_bind [] ts g.closed.1.0.1.0.1
      (omega (arith, inside (receive k) (many row ts ∷ body ∷ []) g.short, bytes-cons (many row ts) (body ∷ []), length-code row (trees ts))))

  pub binds-apart : AreApart (bind_channels bs.items)
  binds-apart = subst AreApart (ap (λ (s : Row). channels s.part) e ∙ channels-receive id k bs body) (storable_channels_are_apart r h)

pub bind-channel : (b : TermBind) → Ready a_bind (bind_tree b) → Ready term b.channel
bind-channel b h = record {
  closed = h.closed.1.0;
  short = omega (arith, h.short, length-code bind (also b.channel (also (many row b.pats.items) (also (leaf (rest b.rest)) none))), bytes-cons b.channel (many row b.pats.items ∷ leaf (rest b.rest) ∷ []));
}

pub all-in : {A : Type 0} (P : A → Type 0) (x : A) (xs : List A) → All P xs → IsIn x xs → P x
all-in P x [] a h = absurd h
all-in P x (y ∷ ys) a (inl e) = subst P (sym e) (All-head P y ys a)
all-in P x (y ∷ ys) a (inr h) = all-in P x ys (All-tail P y ys a) h

or-none : (v : Bool) → v || false ≡ v
or-none true = refl
or-none false = refl

-- a send on a channel
pub sent-is : (c : Tree) (id : Digest) (d : Tree) (xs : Vec Tree Global) (q : Bool) → is_sent_on c (row_of_op (op.Produce id d xs q)) ≡ congruent c d
sent-is c id d xs q = or-none (congruent c d)

-- a receive with a bind on a channel
pub heard-is : (c : Tree) (id : Digest) (k : Kind) (bs : Vec TermBind Global) (body : Tree) → is_heard_on c (row_of_op (op.Consume id k bs body)) ≡ is_one_channel c (bind_channels bs.items)
heard-is c id k bs body = ap (is_one_channel c) (channels-receive id k bs body)

-- a datum on a channel
pub sent-datum : (c : Tree) (r : Row) (d : Datum) → as_datum r.part ≡ Some d → is_sent_on c r ≡ congruent c d.channel
sent-datum c r d e = go r.part e
  where
    go : (t : Tree) → as_datum t ≡ Some d → is_some (as_datum t) && is_one_channel c (channels t) ≡ congruent c d.channel
    go (node (send q) ts) e = let same : at 0 (listed ts) ≡ d.channel = cc in or-none (congruent c (at 0 (listed ts))) ∙ ap (congruent c) same
    go (node _ ts) e = cc
