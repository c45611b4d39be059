-- Parts that are made of a process's constituents, or of a name's, are those of its normal form.
use Rattle.std.proofs.Common.{◌≡◌, ℕ, List, [], ◌∷◌, map, ap, refl, ◌∙◌, rules, Bool}
use Rattle.std.specs.Prelude.{Vec, Box, String, string_bytes}
use Rattle.std.specs.declared.alloc.Global.{Global}
use Rattle.calculus.specs.Bare.{Names, index, all_names, declared_origin}
use Rattle.calculus.specs.Meaning.{ground_label, declared, row_of, proc_written, name_written, bind_written, case_written}
use Rattle.calculus.specs.Shape.{leaf, one, two, many}
use Rattle.calculus.specs.Tree.{Label, Tree, var, name_var, fresh, par, row, list, tuple, set, dict, send, receive, new, match, bundle, unary, binary, method}
use Rattle.calculus.specs.Written.{in_process, use_process, use_name, drop, quote, declare, writtens, bare_form, form_of, form_of_one, form_of_two}
use Rattle.calculus.specs.declared.ids.Digest.{Digest}
use Rattle.calculus.specs.declared.plain.BinaryOp.{BinaryOp}
use Rattle.calculus.specs.declared.plain.Decl.{Decl}
use Rattle.calculus.specs.declared.plain.Ground.{Ground}
use Rattle.calculus.specs.declared.plain.Kind.{Kind}
use Rattle.calculus.specs.declared.plain.Origin.{Origin}
use Rattle.calculus.specs.declared.plain.Rights.{Rights}
use Rattle.calculus.specs.declared.plain.UnaryOp.{UnaryOp}
use Rattle.calculus.specs.declared.process.Bind.{Bind}
use Rattle.calculus.specs.declared.process.Case.{Case}
use Rattle.calculus.specs.declared.process.Name.{Name}
use Rattle.calculus.specs.declared.process.Name.TheVariants as names
use Rattle.calculus.specs.declared.process.Proc.{Proc, the_lemmas}
use Rattle.calculus.specs.declared.process.Proc.TheVariants as procs
use Rattle.open_processes.specs.Pairs.{proc_pair}
use Rattle.open_processes.proofs.Forms.{dict-form}
use Rattle.normal_parts.specs.InScope.{within}
use Rattle.normal_parts.proofs.BindsNone.{proc-binds-none}
use Rattle.normal_parts.specs.Made.{normal_in, all_in, parts_in, all_parts}
use Rattle.normal_parts.proofs.Calls.{of-form, many-same, row-same, one-same, two-same}
use Rattle.normal_parts.proofs.Flat.{parts-par, parts-drop, parts-quote}
use Rattle.normal_parts.proofs.Forms.{parts-list, parts-tuple, parts-set, parts-dict, parts-send, parts-receive, parts-new, parts-match, parts-bundle, parts-unary, parts-binary, parts-method, parts-ground, parts-variable, parts-name, parts-fresh}

module _ (n : Name) (v : Names) where
  pub of-name : (x : String Global) (i : ℕ) → n ≡ names.Var x → i ≡ index (string_bytes x) v → leaf (name_var i) ∷ [] ≡ parts_in (name_written n) v
  of-name x i e k =
      let w : name_written n ≡ bare_form (use_name (string_bytes x)) = search (rules, the_lemmas) in
      of-form v w (parts-name (string_bytes x) v) (ap (λ z. leaf (name_var z) ∷ []) k)

  pub of-fresh : (d : Digest) → n ≡ names.Fresh d → leaf (fresh d.0) ∷ [] ≡ parts_in (name_written n) v
  of-fresh d e =
      let w : name_written n ≡ bare_form (in_process (fresh d.0)) = search (rules, the_lemmas) in
      of-form v w (parts-fresh d.0 v) refl

  pub of-quote : (b : Box Proc Global) (p : Proc) → n ≡ names.Quote b → p ≡ b.value → parts_in (proc_written p) v ≡ parts_in (name_written n) v
  of-quote b p e q =
      let w : name_written n ≡ form_of_one quote (proc_written p) = search (rules, the_lemmas) in
      of-form v w (parts-quote (proc_written p) v) refl

module _ (p : Proc) (v : Names) where
  pub of-par : (ps : Vec Proc Global) → p ≡ procs.Par ps → all_parts (map proc_written ps.items) v ≡ parts_in (proc_written p) v
  of-par ps e =
      let w : proc_written p ≡ form_of (in_process par) (map proc_written ps.items) = search (rules, the_lemmas) in
      of-form v w (parts-par (map proc_written ps.items) v) refl

  pub of-ground : (g : Ground) (l : Label) → p ≡ procs.Ground g → l ≡ ground_label g → leaf l ∷ [] ≡ parts_in (proc_written p) v
  of-ground g l e k =
      let w : proc_written p ≡ bare_form (in_process (ground_label g)) = search (rules, the_lemmas) in
      of-form v w (parts-ground g v) (ap (λ z. leaf z ∷ []) k)

  pub of-variable : (x : String Global) (i : ℕ) → p ≡ procs.Var x → i ≡ index (string_bytes x) v → leaf (var i) ∷ [] ≡ parts_in (proc_written p) v
  of-variable x i e k =
      let w : proc_written p ≡ bare_form (use_process (string_bytes x)) = search (rules, the_lemmas) in
      of-form v w (parts-variable (string_bytes x) v) (ap (λ z. leaf (var z) ∷ []) k)

  pub of-drop : (n : Name) → p ≡ procs.Drop n → parts_in (name_written n) v ≡ parts_in (proc_written p) v
  of-drop n e =
      let w : proc_written p ≡ form_of_one drop (name_written n) = search (rules, the_lemmas) in
      of-form v w (parts-drop (name_written n) v) refl

  pub of-list : (ps : Vec Proc Global) (ts : List Tree) → p ≡ procs.List ps → ts ≡ all_in (map proc_written ps.items) v → many list ts ∷ [] ≡ parts_in (proc_written p) v
  of-list ps ts e k =
      let w : proc_written p ≡ form_of (in_process list) (map proc_written ps.items) = search (rules, the_lemmas) in
      of-form v w (parts-list (map proc_written ps.items) v) (many-same list k)

  pub of-tuple : (ps : Vec Proc Global) (ts : List Tree) → p ≡ procs.Tuple ps → ts ≡ all_in (map proc_written ps.items) v → many tuple ts ∷ [] ≡ parts_in (proc_written p) v
  of-tuple ps ts e k =
      let w : proc_written p ≡ form_of (in_process tuple) (map proc_written ps.items) = search (rules, the_lemmas) in
      of-form v w (parts-tuple (map proc_written ps.items) v) (many-same tuple k)

  pub of-set : (ps : Vec Proc Global) (ts : List Tree) → p ≡ procs.Set ps → ts ≡ all_in (map proc_written ps.items) v → many set ts ∷ [] ≡ parts_in (proc_written p) v
  of-set ps ts e k =
      let w : proc_written p ≡ form_of (in_process set) (map proc_written ps.items) = search (rules, the_lemmas) in
      of-form v w (parts-set (map proc_written ps.items) v) (many-same set k)

  pub of-map : (ps : Vec (Proc × Proc) Global) (ts : List Tree) → p ≡ procs.Map ps → ts ≡ all_in (map proc_pair ps.items) v → many dict ts ∷ [] ≡ parts_in (proc_written p) v
  of-map ps ts e k = of-form v (dict-form p ps e) (parts-dict (map proc_pair ps.items) v) (many-same dict k)

  pub of-send : (n : Name) (ps : Vec Proc Global) (q : Bool) (w : Names) (t : Tree) (ts : List Tree) → p ≡ procs.Send n ps q → w ≡ v
      → t ≡ normal_in (name_written n) v → ts ≡ all_in (map proc_written ps.items) w → two (send q) t (many row ts) ∷ [] ≡ parts_in (proc_written p) v
  of-send n ps q w t ts e s k m =
      let x : proc_written p ≡ form_of_two (in_process (send q)) (name_written n) (row_of (map proc_written ps.items)) = search (rules, the_lemmas) in
      of-form v x (parts-send q (name_written n) (map proc_written ps.items) v) (two-same (send q) k (row-same (m ∙ ap (all_in (map proc_written ps.items)) s)))

  pub of-receive : (k : Kind) (bs : Vec Bind Global) (body : Box Proc Global) (b : Proc) (w z : Names) (t : Tree) (ts : List Tree)
      → p ≡ procs.Receive k bs body → b ≡ body.value → w ≡ v → z ≡ within (all_names (writtens (map bind_written bs.items))) w
      → ts ≡ all_in (map bind_written bs.items) v → t ≡ normal_in (proc_written b) z → two (receive k) (many row ts) t ∷ [] ≡ parts_in (proc_written p) v
  of-receive k bs body b w z t ts e d s i m h =
      let x : proc_written p ≡ form_of_two (in_process (receive k)) (row_of (map bind_written bs.items)) (proc_written b) = search (rules, the_lemmas) in
      let j = i ∙ ap (within (all_names (writtens (map bind_written bs.items)))) s in
      of-form v x (parts-receive k (map bind_written bs.items) (proc_written b) v (proc-binds-none b)) (two-same (receive k) (row-same m) (h ∙ ap (normal_in (proc_written b)) j))

  pub of-new : (ds : Vec Decl Global) (body : Box Proc Global) (b : Proc) (z : Names) (os : List Origin) (t : Tree)
      → p ≡ procs.New ds body → b ≡ body.value → z ≡ within (map (λ d. d.0) (map declared ds.items)) v
      → os ≡ map (λ d. declared_origin d.1) (map declared ds.items) → t ≡ normal_in (proc_written b) z → one (new os) t ∷ [] ≡ parts_in (proc_written p) v
  of-new ds body b z os t e d i o h =
      let x : proc_written p ≡ form_of_one (declare (map declared ds.items)) (proc_written b) = search (rules, the_lemmas) in
      of-form v x (parts-new (map declared ds.items) (proc_written b) v) (ap (λ l. one (new l) t ∷ []) o ∙ one-same (new (map (λ d. declared_origin d.1) (map declared ds.items))) (h ∙ ap (normal_in (proc_written b)) i))

  pub of-match : (target : Box Proc Global) (cs : Vec Case Global) (b : Proc) (w : Names) (t : Tree) (ts : List Tree) → p ≡ procs.Match target cs → b ≡ target.value → w ≡ v
      → t ≡ normal_in (proc_written b) v → ts ≡ all_in (map case_written cs.items) w → two match t (many row ts) ∷ [] ≡ parts_in (proc_written p) v
  of-match target cs b w t ts e d s k m =
      let x : proc_written p ≡ form_of_two (in_process match) (proc_written b) (row_of (map case_written cs.items)) = search (rules, the_lemmas) in
      of-form v x (parts-match (proc_written b) (map case_written cs.items) v) (two-same match k (row-same (m ∙ ap (all_in (map case_written cs.items)) s)))

  pub of-bundle : (r : Rights) (body : Box Proc Global) (b : Proc) (t : Tree) → p ≡ procs.Bundle r body → b ≡ body.value → t ≡ normal_in (proc_written b) v
      → one (bundle r) t ∷ [] ≡ parts_in (proc_written p) v
  of-bundle r body b t e d k =
      let x : proc_written p ≡ form_of_one (in_process (bundle r)) (proc_written b) = search (rules, the_lemmas) in
      of-form v x (parts-bundle r (proc_written b) v) (one-same (bundle r) k)

  pub of-unary : (o : UnaryOp) (arg : Box Proc Global) (b : Proc) (t : Tree) → p ≡ procs.Unary o arg → b ≡ arg.value → t ≡ normal_in (proc_written b) v
      → one (unary o) t ∷ [] ≡ parts_in (proc_written p) v
  of-unary o arg b t e d k =
      let x : proc_written p ≡ form_of_one (in_process (unary o)) (proc_written b) = search (rules, the_lemmas) in
      of-form v x (parts-unary o (proc_written b) v) (one-same (unary o) k)

  pub of-binary : (o : BinaryOp) (left right : Box Proc Global) (a b : Proc) (w : Names) (t u : Tree) → p ≡ procs.Binary o left right → a ≡ left.value → b ≡ right.value → w ≡ v
      → t ≡ normal_in (proc_written a) v → u ≡ normal_in (proc_written b) w → two (binary o) t u ∷ [] ≡ parts_in (proc_written p) v
  of-binary o left right a b w t u e c d s k m =
      let x : proc_written p ≡ form_of_two (in_process (binary o)) (proc_written a) (proc_written b) = search (rules, the_lemmas) in
      of-form v x (parts-binary o (proc_written a) (proc_written b) v) (two-same (binary o) k (m ∙ ap (normal_in (proc_written b)) s))

  pub of-method : (name : String Global) (target : Box Proc Global) (ps : Vec Proc Global) (b : Proc) (w : Names) (m : List ℕ) (t : Tree) (ts : List Tree)
      → p ≡ procs.Method name target ps → b ≡ target.value → w ≡ v → m ≡ string_bytes name → t ≡ normal_in (proc_written b) v → ts ≡ all_in (map proc_written ps.items) w
      → two (method m) t (many row ts) ∷ [] ≡ parts_in (proc_written p) v
  of-method name target ps b w m t ts e d s n k l =
      let x : proc_written p ≡ form_of_two (in_process (method (string_bytes name))) (proc_written b) (row_of (map proc_written ps.items)) = search (rules, the_lemmas) in
      of-form v x (parts-method (string_bytes name) (proc_written b) (map proc_written ps.items) v)
      (ap (λ z. two (method z) t (many row ts) ∷ []) n ∙ two-same (method (string_bytes name)) k (row-same (l ∙ ap (all_in (map proc_written ps.items)) s)))
