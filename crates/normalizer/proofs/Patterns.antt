-- Parts that are made of a pattern's constituents are those of its normal form.
use Rattle.std.proofs.Common.{◌≡◌, List, [], ◌∷◌, ◌++◌, map, ap, sym, refl, ◌∙◌, rules, Bool}
use Rattle.std.specs.Prelude.{Vec, Box, String, string_bytes}
use Rattle.std.specs.declared.alloc.Global.{Global}
use Rattle.calculus.specs.Bare.{Names}
use Rattle.calculus.specs.Meaning.{ground_label, proc_written, pat_written, name_pat_written, rest_written}
use Rattle.calculus.specs.Shape.{leaf, one, two, many}
use Rattle.calculus.specs.Tree.{Label, Tree, pattern, row, tuple, send, bundle, rest, any, some_process, some_name, simple, same, both, either, not_this, list_pattern, set_pattern, map_pattern}
use Rattle.calculus.specs.Written.{in_pattern, bind_process, bind_name, quote_pattern, closed, bare_form, form_of, form_of_one, form_of_two}
use Rattle.calculus.specs.declared.plain.Ground.{Ground}
use Rattle.calculus.specs.declared.plain.Rest.{Rest}
use Rattle.calculus.specs.declared.plain.Rights.{Rights}
use Rattle.calculus.specs.declared.plain.Simple.{Simple}
use Rattle.calculus.specs.declared.plain.TermRest.{TermRest}
use Rattle.calculus.specs.declared.process.NamePat.{NamePat}
use Rattle.calculus.specs.declared.process.NamePat.TheVariants as name_pats
use Rattle.calculus.specs.declared.process.Pat.{Pat}
use Rattle.calculus.specs.declared.process.Pat.TheVariants as pats
use Rattle.calculus.specs.declared.process.Proc.{Proc, the_lemmas}
use Rattle.code_order.specs.Made.{reordered}
use Rattle.open_processes.specs.Pairs.{pat_pair}
use Rattle.open_processes.proofs.Forms.{list-form, set-form, map-form, send-form, both-form, either-form}
use Rattle.rho_term.specs.Parts.{part_tree}
use Rattle.rho_term.specs.declared.term.Part.{Part}
use Rattle.normal_parts.specs.Made.{normal_in, all_in, parts_in, pattern_parts_in, all_pattern_parts}
use Rattle.normal_parts.proofs.Calls.{of-pattern, closed-parts, many-same, row-same, one-same, two-same}
use Rattle.normal_parts.proofs.Flat.{parts-pattern, parts-quote-pattern}
use Rattle.normal_parts.proofs.PatternForms.{pattern-same, pattern-both, pattern-either, pattern-not, pattern-bundle, pattern-tuple, pattern-list, pattern-set, pattern-map, pattern-send, pattern-ground, pattern-any, pattern-simple, pattern-process, pattern-name}

module _ (p : NamePat) (v : Names) where
  pub of-any-name : p ≡ name_pats.Wild → leaf any ∷ [] ≡ pattern_parts_in (name_pat_written p) v
  of-any-name e =
      let w : name_pat_written p ≡ bare_form (in_pattern any) = search (rules, the_lemmas) in
      of-pattern v w (pattern-any v) refl

  pub of-name : (x : String Global) → p ≡ name_pats.Var x → leaf some_name ∷ [] ≡ pattern_parts_in (name_pat_written p) v
  of-name x e =
      let w : name_pat_written p ≡ bare_form (bind_name (string_bytes x)) = search (rules, the_lemmas) in
      of-pattern v w (pattern-name (string_bytes x) v) refl

  pub of-quote : (b : Box Pat Global) (q : Pat) → p ≡ name_pats.Quote b → q ≡ b.value → pattern_parts_in (pat_written q) v ≡ pattern_parts_in (name_pat_written p) v
  of-quote b q e k =
      let w : name_pat_written p ≡ form_of_one quote_pattern (pat_written q) = search (rules, the_lemmas) in
      of-pattern v w (parts-quote-pattern (pat_written q) v) refl

module _ (p : Pat) (v : Names) where
  pub of-par : (ps : Vec Pat Global) → p ≡ pats.Par ps → all_pattern_parts (map pat_written ps.items) v ≡ pattern_parts_in (pat_written p) v
  of-par ps e =
      let w : pat_written p ≡ form_of (in_pattern pattern) (map pat_written ps.items) = search (rules, the_lemmas) in
      of-pattern v w (parts-pattern (map pat_written ps.items) v) refl

  pub of-any : p ≡ pats.Wild → leaf any ∷ [] ≡ pattern_parts_in (pat_written p) v
  of-any e =
      let w : pat_written p ≡ bare_form (in_pattern any) = search (rules, the_lemmas) in
      of-pattern v w (pattern-any v) refl

  pub of-variable : (x : String Global) → p ≡ pats.Var x → leaf some_process ∷ [] ≡ pattern_parts_in (pat_written p) v
  of-variable x e =
      let w : pat_written p ≡ bare_form (bind_process (string_bytes x)) = search (rules, the_lemmas) in
      of-pattern v w (pattern-process (string_bytes x) v) refl

  pub of-simple : (k : Simple) → p ≡ pats.Simple k → leaf (simple k) ∷ [] ≡ pattern_parts_in (pat_written p) v
  of-simple k e =
      let w : pat_written p ≡ bare_form (in_pattern (simple k)) = search (rules, the_lemmas) in
      of-pattern v w (pattern-simple k v) refl

  pub of-same : (inner : Box Proc Global) (b : Proc) (t : Tree) → p ≡ pats.Same inner → b ≡ inner.value → t ≡ normal_in (proc_written b) v → one same t ∷ [] ≡ pattern_parts_in (pat_written p) v
  of-same inner b t e d k =
      let w : pat_written p ≡ form_of_one (in_pattern same) (proc_written b) = search (rules, the_lemmas) in
      of-pattern v w (pattern-same (proc_written b) v) (one-same same k)

  pub of-ground : (g : Ground) (l : Label) → p ≡ pats.Ground g → l ≡ ground_label g → leaf l ∷ [] ≡ pattern_parts_in (pat_written p) v
  of-ground g l e k =
      let w : pat_written p ≡ bare_form (in_pattern (ground_label g)) = search (rules, the_lemmas) in
      of-pattern v w (pattern-ground g v) (ap (λ z. leaf z ∷ []) k)

  pub of-both : (left right : Box Pat Global) (a b : Pat) (w : Names) (t u : Tree) → p ≡ pats.Both left right → a ≡ left.value → b ≡ right.value → w ≡ v
      → t ≡ normal_in (pat_written a) v → u ≡ normal_in (pat_written b) w → two both t u ∷ [] ≡ pattern_parts_in (pat_written p) v
  of-both left right a b w t u e c d s k m =
      let x : pat_written p ≡ form_of_two (in_pattern both) (pat_written a) (pat_written b) = rw (c, d) (both-form p left right e) in
      of-pattern v x (pattern-both (pat_written a) (pat_written b) v) (two-same both k (m ∙ ap (normal_in (pat_written b)) s))

  pub of-either : (left right : Box Pat Global) (a b : Pat) (w : Names) (t u : Tree) → p ≡ pats.Either left right → a ≡ left.value → b ≡ right.value → w ≡ v
      → t ≡ normal_in (pat_written a) v → u ≡ normal_in (pat_written b) w → two either t u ∷ [] ≡ pattern_parts_in (pat_written p) v
  of-either left right a b w t u e c d s k m =
      let x : pat_written p ≡ form_of_two (in_pattern either) (pat_written a) (pat_written b) = rw (c, d) (either-form p left right e) in
      of-pattern v x (pattern-either (pat_written a) (pat_written b) v) (two-same either k (m ∙ ap (normal_in (pat_written b)) s))

  pub of-not : (inner : Box Pat Global) (b : Pat) (t : Tree) → p ≡ pats.Not inner → b ≡ inner.value → t ≡ normal_in (pat_written b) v → one not_this t ∷ [] ≡ pattern_parts_in (pat_written p) v
  of-not inner b t e d k =
      let w : pat_written p ≡ form_of_one (in_pattern not_this) (pat_written b) = search (rules, the_lemmas) in
      of-pattern v w (pattern-not (pat_written b) v) (one-same not_this k)

  pub of-tuple : (ps : Vec Pat Global) (ts : List Tree) → p ≡ pats.Tuple ps → ts ≡ all_in (map pat_written ps.items) v → many tuple ts ∷ [] ≡ pattern_parts_in (pat_written p) v
  of-tuple ps ts e k =
      let w : pat_written p ≡ form_of (in_pattern tuple) (map pat_written ps.items) = search (rules, the_lemmas) in
      of-pattern v w (pattern-tuple (map pat_written ps.items) v) (many-same tuple k)

  pub of-list : (ps : Vec Pat Global) (r : Rest) (q : TermRest) (ts : List Tree) → p ≡ pats.List ps r → ((z : Names) → normal_in (rest_written r) z ≡ leaf (rest q))
      → ts ≡ all_in (map pat_written ps.items) v → two list_pattern (many row ts) (leaf (rest q)) ∷ [] ≡ pattern_parts_in (pat_written p) v
  of-list ps r q ts e d k = of-pattern v (list-form p ps r e) (pattern-list (map pat_written ps.items) (rest_written r) v) (two-same list_pattern (row-same k) (sym (d v)))

  pub of-set : (ps : Vec Pat Global) (r : Rest) (q : TermRest) (ts : List Tree) → p ≡ pats.Set ps r → ((z : Names) → normal_in (rest_written r) z ≡ leaf (rest q))
      → ts ≡ all_in (map pat_written ps.items) v → two set_pattern (many row ts) (leaf (rest q)) ∷ [] ≡ pattern_parts_in (pat_written p) v
  of-set ps r q ts e d k = of-pattern v (set-form p ps r e) (pattern-set (map pat_written ps.items) (rest_written r) v) (two-same set_pattern (row-same k) (sym (d v)))

  pub of-map : (ps : Vec (Pat × Pat) Global) (r : Rest) (q : TermRest) (ts : List Tree) → p ≡ pats.Map ps r → ((z : Names) → normal_in (rest_written r) z ≡ leaf (rest q))
      → ts ≡ all_in (map pat_pair ps.items) v → two map_pattern (many row ts) (leaf (rest q)) ∷ [] ≡ pattern_parts_in (pat_written p) v
  of-map ps r q ts e d k = of-pattern v (map-form p ps r e) (pattern-map (map pat_pair ps.items) (rest_written r) v) (two-same map_pattern (row-same k) (sym (d v)))

  pub of-send : (n : NamePat) (ps : Vec Pat Global) (q : Bool) (w : Names) (t : Tree) (ts : List Tree) → p ≡ pats.Send n ps q → w ≡ v
      → t ≡ normal_in (name_pat_written n) v → ts ≡ all_in (map pat_written ps.items) w → two (send q) t (many row ts) ∷ [] ≡ pattern_parts_in (pat_written p) v
  of-send n ps q w t ts e s k m =
      of-pattern v (send-form p n ps q e) (pattern-send q (name_pat_written n) (map pat_written ps.items) v) (two-same (send q) k (row-same (m ∙ ap (all_in (map pat_written ps.items)) s)))

  pub of-bundle : (r : Rights) (body : Box Pat Global) (b : Pat) (t : Tree) → p ≡ pats.Bundle r body → b ≡ body.value → t ≡ normal_in (pat_written b) v
      → one (bundle r) t ∷ [] ≡ pattern_parts_in (pat_written p) v
  of-bundle r body b t e d k =
      let w : pat_written p ≡ form_of_one (in_pattern (bundle r)) (pat_written b) = search (rules, the_lemmas) in
      of-pattern v w (pattern-bundle r (pat_written b) v) (one-same (bundle r) k)

  -- the parts of a closed form were added to nothing
  pub of-closed : (inner : Box Proc Global) (b : Proc) (o ps : List Part) → p ≡ pats.Closed inner → b ≡ inner.value → o ≡ [] → map part_tree ps ≡ map part_tree o ++ parts_in (proc_written b) v
      → map (λ f. reordered (part_tree f)) ps ≡ pattern_parts_in (pat_written p) v
  of-closed inner b o ps e d z k =
      let w : pat_written p ≡ form_of_one closed (proc_written b) = search (rules, the_lemmas) in
      of-pattern v w refl (closed-parts ps (proc_written b) v (k ∙ ap (λ us. map part_tree us ++ parts_in (proc_written b) v) z))
