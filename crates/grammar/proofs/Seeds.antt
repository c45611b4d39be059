-- A text of the least height of each sort that a form can be left for: `Nil`, a word, nothing, or what closes.
use Rattle.std.proofs.Common.{◌≡◌, ℕ, ◌+◌, max, List, [], ◌∷◌, ◌++◌, refl, ap, ◌∙◌, false, arith}
use Rattle.std.specs.Prelude.{⊤, Option, None}
use Rattle.calculus.specs.Written.{Written}
use Rattle.calculus.specs.declared.plain.Kind.{Kind}
use Rattle.calculus.specs.declared.plain.Kind.TheVariants as kinds
use Rattle.tokens.specs.Token.{Notation}
use Rattle.grammar.specs.declared.dialect.Dialect.{Dialect}
use Rattle.grammar.specs.declared.mark.Mark.TheVariants as marks
use Rattle.grammar.specs.Grammar.{rule, arrow_mark}
use Rattle.grammar.specs.Productions.{Prod}
use Rattle.grammar.specs.Rules.{Bracket, Separator, closing, Sort, sign, under, last}
use Rattle.grammar.specs.Spells.{Reads, of_next, of_done, of_sign, of_under, of_at, of_last}
use Rattle.grammar.specs.Terminals.{Terminal, mark, terminals}
use Rattle.grammar.specs.Values.{Spelt, Side, processes, patterns, leaf, no_parts, case_of}
use Rattle.grammar.proofs.Complete.{floor}
use Rattle.grammar.proofs.Texts.{Whole, first_mark, whole_done, whole_sign, whole_word, whole_at, whole_under, whole_last}
use Rattle.grammar.proofs.Tokens.{token_of}

-- a text of the sort, of the least height
pub record Seed (n : Notation) (d : Dialect) (s : Sort) : Type 0 where
  pub prod : Prod s
  pub whole : Whole n d (rule d prod)
  pub low : whole.value.height ≡ floor s

pub seed_OrTail : (n : Notation) (d : Dialect) (a : Spelt) → Seed n d (Sort.OrTail a)
seed_OrTail n d a = record { prod = Prod.or_end a; whole = whole_done _; low = refl }

pub seed_AndTail : (n : Notation) (d : Dialect) (a : Spelt) → Seed n d (Sort.AndTail a)
seed_AndTail n d a = record { prod = Prod.and_end a; whole = whole_done _; low = refl }

pub seed_EqTail : (n : Notation) (d : Dialect) (a : Spelt) → Seed n d (Sort.EqTail a)
seed_EqTail n d a = record { prod = Prod.eq_end a; whole = whole_done _; low = refl }

pub seed_CmpTail : (n : Notation) (d : Dialect) (a : Spelt) → Seed n d (Sort.CmpTail a)
seed_CmpTail n d a = record { prod = Prod.cmp_end a; whole = whole_done _; low = refl }

pub seed_SumTail : (n : Notation) (d : Dialect) (a : Spelt) → Seed n d (Sort.SumTail a)
seed_SumTail n d a = record { prod = Prod.sum_end a; whole = whole_done _; low = refl }

pub seed_MulTail : (n : Notation) (d : Dialect) (a : Spelt) → Seed n d (Sort.MulTail a)
seed_MulTail n d a = record { prod = Prod.mul_end a; whole = whole_done _; low = refl }

pub seed_MethTail : (n : Notation) (d : Dialect) (a : Spelt) → Seed n d (Sort.MethTail a)
seed_MethTail n d a = record { prod = Prod.meth_end a; whole = whole_done _; low = refl }

pub seed_PAltTail : (n : Notation) (d : Dialect) (a : Spelt) → Seed n d (Sort.PAltTail a)
seed_PAltTail n d a = record { prod = Prod.palt_end a; whole = whole_done _; low = refl }

pub seed_PAndTail : (n : Notation) (d : Dialect) (a : Spelt) → Seed n d (Sort.PAndTail a)
seed_PAndTail n d a = record { prod = Prod.pand_end a; whole = whole_done _; low = refl }

pub seed_ParTail : (n : Notation) (d : Dialect) (side : Side) (ps : List Written) (h : ℕ) → Seed n d (Sort.ParTail side ps h)
seed_ParTail n d side ps h = record { prod = Prod.par_end side ps h; whole = whole_done _; low = refl }

pub seed_Atom : (n : Notation) (d : Dialect) → Seed n d Sort.Atom
seed_Atom n d = record { prod = Prod.atom_nil; whole = whole_sign marks.Nil (whole_done _); low = refl }

pub seed_Drop : (n : Notation) (d : Dialect) → Seed n d Sort.Drop
seed_Drop n d = let a = seed_Atom n d in record { prod = Prod.drop_atom; whole = whole_last a.prod a.whole; low = a.low }

pub seed_Meth : (n : Notation) (d : Dialect) → Seed n d Sort.Meth
seed_Meth n d = let a = seed_Drop n d in let t = seed_MethTail n d a.whole.value in record { prod = Prod.meth; whole = whole_at a.prod a.whole (whole_last t.prod t.whole); low = t.low ∙ a.low }

pub seed_Pre : (n : Notation) (d : Dialect) → Seed n d Sort.Pre
seed_Pre n d = let a = seed_Meth n d in record { prod = Prod.pre_meth; whole = whole_last a.prod a.whole; low = a.low }

pub seed_Mul : (n : Notation) (d : Dialect) → Seed n d Sort.Mul
seed_Mul n d = let a = seed_Pre n d in let t = seed_MulTail n d a.whole.value in record { prod = Prod.mul; whole = whole_at a.prod a.whole (whole_last t.prod t.whole); low = t.low ∙ a.low }

pub seed_Sum : (n : Notation) (d : Dialect) → Seed n d Sort.Sum
seed_Sum n d = let a = seed_Mul n d in let t = seed_SumTail n d a.whole.value in record { prod = Prod.sum; whole = whole_at a.prod a.whole (whole_last t.prod t.whole); low = t.low ∙ a.low }

pub seed_Cmp : (n : Notation) (d : Dialect) → Seed n d Sort.Cmp
seed_Cmp n d = let a = seed_Sum n d in let t = seed_CmpTail n d a.whole.value in record { prod = Prod.cmp; whole = whole_at a.prod a.whole (whole_last t.prod t.whole); low = t.low ∙ a.low }

pub seed_Eq : (n : Notation) (d : Dialect) → Seed n d Sort.Eq
seed_Eq n d = let a = seed_Cmp n d in let t = seed_EqTail n d a.whole.value in record { prod = Prod.eq; whole = whole_at a.prod a.whole (whole_last t.prod t.whole); low = t.low ∙ a.low }

pub seed_And : (n : Notation) (d : Dialect) → Seed n d Sort.And
seed_And n d = let a = seed_Eq n d in let t = seed_AndTail n d a.whole.value in record { prod = Prod.and; whole = whole_at a.prod a.whole (whole_last t.prod t.whole); low = t.low ∙ a.low }

pub seed_Or : (n : Notation) (d : Dialect) → Seed n d Sort.Or
seed_Or n d = let a = seed_And n d in let t = seed_OrTail n d a.whole.value in record { prod = Prod.or; whole = whole_at a.prod a.whole (whole_last t.prod t.whole); low = t.low ∙ a.low }

pub seed_Two : (n : Notation) (d : Dialect) → Seed n d Sort.Two
seed_Two n d = let a = seed_Or n d in record { prod = Prod.two_or; whole = whole_last a.prod a.whole; low = a.low }

pub seed_One : (n : Notation) (d : Dialect) → Seed n d Sort.One
seed_One n d = let a = seed_Two n d in record { prod = Prod.one_two; whole = whole_last a.prod a.whole; low = a.low }

pub seed_PAtom : (n : Notation) (d : Dialect) → Seed n d Sort.PAtom
seed_PAtom n d = record { prod = Prod.patom_nil; whole = whole_sign marks.Nil (whole_done _); low = refl }

pub seed_PNot : (n : Notation) (d : Dialect) → Seed n d Sort.PNot
seed_PNot n d = let a = seed_PAtom n d in record { prod = Prod.pnot_atom; whole = whole_last a.prod a.whole; low = a.low }

pub seed_PAnd : (n : Notation) (d : Dialect) → Seed n d Sort.PAnd
seed_PAnd n d = let a = seed_PNot n d in let t = seed_PAndTail n d a.whole.value in record { prod = Prod.pand; whole = whole_at a.prod a.whole (whole_last t.prod t.whole); low = t.low ∙ a.low }

pub seed_PAlt : (n : Notation) (d : Dialect) → Seed n d Sort.PAlt
seed_PAlt n d = let a = seed_PAnd n d in let t = seed_PAltTail n d a.whole.value in record { prod = Prod.palt; whole = whole_at a.prod a.whole (whole_last t.prod t.whole); low = t.low ∙ a.low }

pub seed_POne : (n : Notation) (d : Dialect) → Seed n d Sort.POne
seed_POne n d = let a = seed_PAlt n d in record { prod = Prod.pone_alt; whole = whole_last a.prod a.whole; low = a.low }

seed_par_processes : (n : Notation) (d : Dialect) → Seed n d (Sort.Par processes)
seed_par_processes n d = let a = seed_One n d in let t = seed_ParTail n d processes (a.whole.value.tree ∷ []) a.whole.value.height in record { prod = Prod.par processes; whole = whole_at a.prod a.whole (whole_last t.prod t.whole); low = t.low ∙ a.low }

seed_par_patterns : (n : Notation) (d : Dialect) → Seed n d (Sort.Par patterns)
seed_par_patterns n d = let a = seed_POne n d in let t = seed_ParTail n d patterns (a.whole.value.tree ∷ []) a.whole.value.height in record { prod = Prod.par patterns; whole = whole_at a.prod a.whole (whole_last t.prod t.whole); low = t.low ∙ a.low }

pub seed_Par : (n : Notation) (d : Dialect) (side : Side) → Seed n d (Sort.Par side)
seed_Par n d processes = seed_par_processes n d
seed_Par n d patterns = seed_par_patterns n d

pub seed_Dropped : (n : Notation) (d : Dialect) → Seed n d Sort.Dropped
seed_Dropped n d = record { prod = Prod.dropped_word; whole = whole_word (whole_done _); low = refl }

pub seed_Name : (n : Notation) (d : Dialect) → Seed n d Sort.Name
seed_Name n d = record { prod = Prod.name_word; whole = whole_word (whole_done _); low = refl }

pub seed_PName : (n : Notation) (d : Dialect) → Seed n d Sort.PName
seed_PName n d = record { prod = Prod.pname_word; whole = whole_word (whole_done _); low = refl }

pub seed_Remainder : (n : Notation) (d : Dialect) → Seed n d Sort.Remainder
seed_Remainder n d = record { prod = Prod.remainder_word; whole = whole_word (whole_done _); low = refl }

pub seed_Ground : (n : Notation) (d : Dialect) (side : Side) → Seed n d (Sort.Ground side)
seed_Ground n d side = record { prod = Prod.ground_true side; whole = whole_sign marks.True (whole_done _); low = refl }

pub seed_Same : (n : Notation) (d : Dialect) → Seed n d Sort.Same
seed_Same n d = record { prod = Prod.same_word; whole = whole_word (whole_done _); low = refl }

pub seed_Group : (n : Notation) (d : Dialect) (side : Side) (p : Spelt) → Seed n d (Sort.Group side p)
seed_Group n d side p = record { prod = Prod.group_close side p; whole = whole_sign marks.Close (whole_done _); low = refl }

pub seed_Brace : (n : Notation) (d : Dialect) → Seed n d Sort.Brace
seed_Brace n d = record { prod = Prod.brace_empty; whole = whole_sign marks.CloseBrace (whole_done _); low = refl }

pub seed_PBrace : (n : Notation) (d : Dialect) → Seed n d Sort.PBrace
seed_PBrace n d = record { prod = Prod.pbrace_empty; whole = whole_sign marks.CloseBrace (whole_done _); low = refl }

pub seed_BraceTail : (n : Notation) (d : Dialect) (p : Spelt) → Seed n d (Sort.BraceTail p)
seed_BraceTail n d p = record { prod = Prod.brace_close p; whole = whole_sign marks.CloseBrace (whole_done _); low = refl }

pub seed_PBraceTail : (n : Notation) (d : Dialect) (p : Spelt) → Seed n d (Sort.PBraceTail p)
seed_PBraceTail n d p = record { prod = Prod.pbrace_close p; whole = whole_sign marks.CloseBrace (whole_done _); low = refl }

pub seed_Pairs : (n : Notation) (d : Dialect) (ps : List Written) (h : ℕ) → Seed n d (Sort.Pairs ps h)
seed_Pairs n d ps h = record { prod = Prod.pairs_end ps h; whole = whole_sign marks.CloseBrace (whole_done _); low = refl }

pub seed_PPairs : (n : Notation) (d : Dialect) (ps : List Written) (h : ℕ) → Seed n d (Sort.PPairs ps h)
seed_PPairs n d ps h = record { prod = Prod.ppairs_end ps h; whole = whole_sign marks.CloseBrace (whole_done _); low = refl }

pub seed_Row : (n : Notation) (d : Dialect) (side : Side) (c : Bracket) → Seed n d (Sort.Row side c)
seed_Row n d side c = record { prod = Prod.row_none side c; whole = whole_sign (closing c) (whole_done _); low = refl }

pub seed_RowTail : (n : Notation) (d : Dialect) (side : Side) (c : Bracket) (ps : List Written) (h : ℕ) → Seed n d (Sort.RowTail side c ps h)
seed_RowTail n d side c ps h = record { prod = Prod.row_end side c ps h; whole = whole_sign (closing c) (whole_done _); low = refl }

pub seed_Seq : (n : Notation) (d : Dialect) (c : Bracket) → Seed n d (Sort.Seq c)
seed_Seq n d c = record { prod = Prod.seq_none c; whole = whole_sign (closing c) (whole_done _); low = refl }

pub seed_SeqTail : (n : Notation) (d : Dialect) (c : Bracket) (ps : List Written) (h : ℕ) → Seed n d (Sort.SeqTail c ps h)
seed_SeqTail n d c ps h = record { prod = Prod.seq_end c ps h; whole = whole_sign (closing c) (whole_done _); low = refl }

pub seed_SeqNext : (n : Notation) (d : Dialect) (c : Bracket) (ps : List Written) (h : ℕ) → Seed n d (Sort.SeqNext c ps h)
seed_SeqNext n d c ps h = let r = seed_Remainder n d in record { prod = Prod.seq_next_rest c ps h; whole = whole_sign marks.Ellipsis (whole_at r.prod r.whole (whole_sign (closing c) (whole_done _))); low = refl }

pub seed_PPairsNext : (n : Notation) (d : Dialect) (ps : List Written) (h : ℕ) → Seed n d (Sort.PPairsNext ps h)
seed_PPairsNext n d ps h = let r = seed_Remainder n d in record { prod = Prod.ppairs_next_rest ps h; whole = whole_sign marks.Ellipsis (whole_at r.prod r.whole (whole_sign marks.CloseBrace (whole_done _))); low = refl }

pub seed_LeftNext : (n : Notation) (d : Dialect) (ps : List Written) (h : ℕ) → Seed n d (Sort.LeftNext ps h)
seed_LeftNext n d ps h = let r = seed_Remainder n d in record { prod = Prod.left_next_rest ps h; whole = whole_sign marks.Ellipsis (whole_sign marks.At (whole_at r.prod r.whole (whole_done _))); low = refl }

pub seed_LeftTail : (n : Notation) (d : Dialect) (ps : List Written) (h : ℕ) → Seed n d (Sort.LeftTail ps h)
seed_LeftTail n d ps h = record { prod = Prod.left_end ps h; whole = whole_done _; low = refl }

pub seed_Left : (n : Notation) (d : Dialect) → Seed n d Sort.Left
seed_Left n d = record { prod = Prod.left_none; whole = whole_done _; low = refl }

pub seed_DeclTail : (n : Notation) (d : Dialect) (ds : List (List ℕ × Option (List ℕ))) → Seed n d (Sort.DeclTail ds)
seed_DeclTail n d ds = let p = seed_One n d in record { prod = Prod.decl_body ds; whole = whole_sign marks.In (whole_under p.prod p.whole (whole_done _)); low = ap (λ x. x + 1) p.low }

pub seed_DeclUri : (n : Notation) (d : Dialect) (ds : List (List ℕ × Option (List ℕ))) (w : List ℕ) → Seed n d (Sort.DeclUri ds w)
seed_DeclUri n d ds w = let t = seed_DeclTail n d (ds ++ ((w, None) ∷ [])) in record { prod = Prod.decl_plain ds w; whole = whole_last t.prod t.whole; low = t.low }

pub seed_Decl : (n : Notation) (d : Dialect) (ds : List (List ℕ × Option (List ℕ))) → Seed n d (Sort.Decl ds)
seed_Decl n d ds = let t = seed_DeclUri n d ds [] in record { prod = Prod.decl ds; whole = whole_word (whole_last t.prod t.whole); low = t.low }

pub seed_IfTail : (n : Notation) (d : Dialect) (e : Spelt) (p : Spelt) → Seed n d (Sort.IfTail e p)
seed_IfTail n d e p = record { prod = Prod.if_only e p; whole = whole_done _; low = refl }

pub seed_SentTail : (n : Notation) (d : Dialect) (side : Side) (a : Spelt) → Seed n d (Sort.SentTail side a)
seed_SentTail n d side a = let r = seed_Row n d side Bracket.round in record { prod = Prod.sent_tail side a false; whole = whole_sign marks.Bang (whole_sign marks.Open (whole_under r.prod r.whole (whole_done _))); low = omega (arith, r.low) }

pub seed_Body : (n : Notation) (d : Dialect) (k : Kind) (bs : List Written) (h : ℕ) → Seed n d (Sort.Body k bs h)
seed_Body n d k bs h = let p = seed_Par n d processes in record { prod = Prod.body k bs h; whole = whole_sign marks.Close (whole_sign marks.OpenBrace (whole_under p.prod p.whole (whole_sign marks.CloseBrace (whole_done _)))); low = omega (arith, p.low) }

pub seed_BindsTail : (n : Notation) (d : Dialect) (k : Kind) (m : Separator) (left : ℕ) (bs : List Written) (h : ℕ) → Seed n d (Sort.BindsTail k m left bs h)
seed_BindsTail n d k m left bs h = let t = seed_Body n d k bs h in record { prod = Prod.binds_end k m left bs h; whole = whole_last t.prod t.whole; low = t.low }

pub seed_FirstTail : (n : Notation) (d : Dialect) (k : Kind) (b : Spelt) → Seed n d (Sort.FirstTail k b)
seed_FirstTail n d k b = let t = seed_Body n d k (b.tree ∷ []) b.height in record { prod = Prod.first_end k b; whole = whole_last t.prod t.whole; low = t.low }

pub seed_Arrow : (n : Notation) (d : Dialect) (l : Spelt) → Seed n d (Sort.Arrow l)
seed_Arrow n d l = let c = seed_Name n d in let t = seed_FirstTail n d kinds.Linear _ in record { prod = Prod.arrow l kinds.Linear; whole = whole_sign marks.Arrow (whole_under c.prod c.whole (whole_last t.prod t.whole)); low = omega (arith, c.low, t.low) }

pub seed_Bind : (n : Notation) (d : Dialect) → Seed n d Sort.Bind
seed_Bind n d = let l = seed_Left n d in let t = seed_Arrow n d l.whole.value in record { prod = Prod.bind; whole = whole_under l.prod l.whole (whole_last t.prod t.whole); low = omega (arith, l.low, t.low) }

pub seed_Binds : (n : Notation) (d : Dialect) (k : Kind) (m : Separator) (left : ℕ) (bs : List Written) (h : ℕ) → Seed n d (Sort.Binds k m left bs h)
seed_Binds n d k m left bs h = let l = seed_Left n d in let c = seed_Name n d in let t = seed_BindsTail n d k m left _ _ in record { prod = Prod.binds k m left bs h; whole = whole_under l.prod l.whole (whole_sign (arrow_mark k) (whole_under c.prod c.whole (whole_last t.prod t.whole))); low = omega (arith, l.low, c.low, t.low) }

pub seed_CaseTail : (n : Notation) (d : Dialect) (t : Spelt) (cs : List Written) (h : ℕ) → Seed n d (Sort.CaseTail t cs h)
seed_CaseTail n d t cs h = record { prod = Prod.case_end t cs h; whole = whole_sign marks.CloseBrace (whole_done _); low = refl }

-- `Nil` as a pattern
nil_pattern : (d : Dialect) (rest : List Terminal) → Reads d (rule d Prod.pone_alt) (mark marks.Nil ∷ rest) (leaf no_parts) rest
nil_pattern d rest = of_last Prod.palt (of_at Prod.pand (of_at Prod.pnot_atom (of_last Prod.patom_nil (of_sign of_done)) (of_last (Prod.pand_end (leaf no_parts)) of_done)) (of_last (Prod.palt_end (leaf no_parts)) of_done))

pub seed_Case : (n : Notation) (d : Dialect) (t : Spelt) (cs : List Written) (h : ℕ) → Seed n d (Sort.Case t cs h)
seed_Case n d t cs h =
    let b = seed_One n d in
    let e = seed_CaseTail n d t (cs ++ (case_of no_parts b.whole.value.tree ∷ [])) (max h (max 0 b.whole.value.height)) in
    let w : Whole n d (sign marks.FatArrow (under Sort.One (λ b. last (Sort.CaseTail t (cs ++ (case_of no_parts b.tree ∷ [])) (max h (max 0 b.height)))))) =
    whole_sign marks.FatArrow (whole_under b.prod b.whole (whole_last e.prod e.whole)) in record {
      prod = Prod.case t cs h;
      whole = record {
        tokens = token_of marks.Nil ∷ w.tokens;
        value = w.value;
        reads = λ rest. first_mark n d (rule d (Prod.case t cs h)) marks.Nil (terminals n w.tokens ++ rest) w.value rest
            (of_next refl (of_under Prod.pone_alt (nil_pattern d (terminals n w.tokens ++ rest)) (w.reads rest)));
      };
      low = omega (arith, b.low, e.low);
    }

-- the sorts of which some text opens no form of its own
abbrev pub IsSeeded : Sort → Type 0
IsSeeded Sort.New = ⊥
IsSeeded Sort.If = ⊥
IsSeeded Sort.Contract = ⊥
IsSeeded (Sort.Sent side a) = ⊥
IsSeeded (Sort.Bundle side) = ⊥
IsSeeded Sort.For = ⊥
IsSeeded Sort.Match = ⊥
IsSeeded _ = ⊤

pub seed : (n : Notation) (d : Dialect) (s : Sort) → IsSeeded s → Seed n d s
seed n d (Sort.Par side) z = seed_Par n d side
seed n d (Sort.ParTail side ps h) z = seed_ParTail n d side ps h
seed n d Sort.One z = seed_One n d
seed n d (Sort.Decl ds) z = seed_Decl n d ds
seed n d (Sort.DeclUri ds w) z = seed_DeclUri n d ds w
seed n d (Sort.DeclTail ds) z = seed_DeclTail n d ds
seed n d (Sort.IfTail e p) z = seed_IfTail n d e p
seed n d Sort.Two z = seed_Two n d
seed n d (Sort.SentTail side a) z = seed_SentTail n d side a
seed n d Sort.Bind z = seed_Bind n d
seed n d (Sort.Arrow l) z = seed_Arrow n d l
seed n d (Sort.FirstTail k b) z = seed_FirstTail n d k b
seed n d (Sort.Binds k m left bs h) z = seed_Binds n d k m left bs h
seed n d (Sort.BindsTail k m left bs h) z = seed_BindsTail n d k m left bs h
seed n d (Sort.Body k bs h) z = seed_Body n d k bs h
seed n d Sort.Left z = seed_Left n d
seed n d (Sort.LeftTail ps h) z = seed_LeftTail n d ps h
seed n d (Sort.LeftNext ps h) z = seed_LeftNext n d ps h
seed n d Sort.Remainder z = seed_Remainder n d
seed n d (Sort.Case t cs h) z = seed_Case n d t cs h
seed n d (Sort.CaseTail t cs h) z = seed_CaseTail n d t cs h
seed n d Sort.Or z = seed_Or n d
seed n d (Sort.OrTail a) z = seed_OrTail n d a
seed n d Sort.And z = seed_And n d
seed n d (Sort.AndTail a) z = seed_AndTail n d a
seed n d Sort.Eq z = seed_Eq n d
seed n d (Sort.EqTail a) z = seed_EqTail n d a
seed n d Sort.Cmp z = seed_Cmp n d
seed n d (Sort.CmpTail a) z = seed_CmpTail n d a
seed n d Sort.Sum z = seed_Sum n d
seed n d (Sort.SumTail a) z = seed_SumTail n d a
seed n d Sort.Mul z = seed_Mul n d
seed n d (Sort.MulTail a) z = seed_MulTail n d a
seed n d Sort.Pre z = seed_Pre n d
seed n d Sort.Meth z = seed_Meth n d
seed n d (Sort.MethTail a) z = seed_MethTail n d a
seed n d Sort.Drop z = seed_Drop n d
seed n d Sort.Dropped z = seed_Dropped n d
seed n d Sort.Name z = seed_Name n d
seed n d Sort.Atom z = seed_Atom n d
seed n d (Sort.Ground side) z = seed_Ground n d side
seed n d (Sort.Group side p) z = seed_Group n d side p
seed n d Sort.Brace z = seed_Brace n d
seed n d (Sort.BraceTail p) z = seed_BraceTail n d p
seed n d (Sort.Pairs ps h) z = seed_Pairs n d ps h
seed n d (Sort.Row side c) z = seed_Row n d side c
seed n d (Sort.RowTail side c ps h) z = seed_RowTail n d side c ps h
seed n d Sort.POne z = seed_POne n d
seed n d Sort.PAlt z = seed_PAlt n d
seed n d (Sort.PAltTail a) z = seed_PAltTail n d a
seed n d Sort.PAnd z = seed_PAnd n d
seed n d (Sort.PAndTail a) z = seed_PAndTail n d a
seed n d Sort.PNot z = seed_PNot n d
seed n d Sort.PName z = seed_PName n d
seed n d Sort.PAtom z = seed_PAtom n d
seed n d Sort.Same z = seed_Same n d
seed n d (Sort.Seq c) z = seed_Seq n d c
seed n d (Sort.SeqTail c ps h) z = seed_SeqTail n d c ps h
seed n d (Sort.SeqNext c ps h) z = seed_SeqNext n d c ps h
seed n d Sort.PBrace z = seed_PBrace n d
seed n d (Sort.PBraceTail p) z = seed_PBraceTail n d p
seed n d (Sort.PPairs ps h) z = seed_PPairs n d ps h
seed n d (Sort.PPairsNext ps h) z = seed_PPairsNext n d ps h
seed n d _ z = absurd z
