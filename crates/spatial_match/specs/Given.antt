-- What is known of a pattern that is put together with a target.
use Rattle.std.specs.Prelude.{◌≤◌, length, List, [], ◌∷◌, ⊤, ◌⊎◌, map as each}
use Rattle.calculus.specs.Tree.{Label, row, bool, int, str, uri, bytes, receive, new, match, tuple, send, bundle, pair, pattern, rest, any, some_process, some_name, simple, same, both, either, not_this, list_pattern, set_pattern, map_pattern, Tree, node, Trees, none, also}
use Rattle.calculus.specs.Shape.{at, held, only}
use Rattle.calculus.specs.Form.{term, pat, name_pat, wides, Fits}
use Rattle.rho_term.specs.Parts.{pat_part_tree}
use Rattle.match_targets.specs.Targets.{Ready}
use Rattle.rho_term.specs.declared.term.PatPart.{PatPart}

-- what is known of a form of a pattern: what is compared, the process of `={P}` and a closed form as a process of one part, is so, and one part at most is wide
abbrev pub OwnReady : Label → Tree → Type 0
OwnReady same t = Ready term (at 0 (held t))
OwnReady (receive k) t = Ready term (only t)
OwnReady (new os) t = Ready term (only t)
OwnReady match t = Ready term (only t)
OwnReady (bool x) t = Ready term (only t)
OwnReady (int x) t = Ready term (only t)
OwnReady (str x) t = Ready term (only t)
OwnReady (uri x) t = Ready term (only t)
OwnReady (bytes x) t = Ready term (only t)
OwnReady any t = ⊤
OwnReady some_process t = ⊤
OwnReady some_name t = ⊤
OwnReady (simple k) t = ⊤
OwnReady both t = ⊤
OwnReady either t = ⊤
OwnReady not_this t = ⊤
OwnReady list_pattern t = ⊤
OwnReady set_pattern t = ⊤
OwnReady map_pattern t = ⊤
OwnReady tuple t = 1 ≤ length (held t)
OwnReady (send q) t = ⊤
OwnReady (bundle r) t = ⊤
OwnReady pair t = ⊤
OwnReady pattern t = wides (held t) ≤ 1
OwnReady row t = ⊤
OwnReady (rest r) t = ⊤
OwnReady _ t = ⊥

abbrev mutual
  -- a tree of a pattern whose compared processes are so
  pub Tries : Tree → Type 0
  Tries (node l ts) = OwnReady l (node l ts) × TriesIn l ts

  -- what stands in it is so, unless it is compared
  pub TriesIn : Label → Trees → Type 0
  TriesIn same ts = ⊤
  TriesIn (receive k) ts = ⊤
  TriesIn (new os) ts = ⊤
  TriesIn match ts = ⊤
  TriesIn l none = ⊤
  TriesIn l (also t ts) = Tries t × TriesIn l ts

-- each of these is so
abbrev pub AllTries : List Tree → Type 0
AllTries [] = ⊤
AllTries (t ∷ ts) = Tries t × AllTries ts

-- each of these parts is so
abbrev pub PartsTry : List PatPart → Type 0
PartsTry ps = AllTries (each pat_part_tree ps)

-- a closed pattern of processes or of names
abbrev pub IsClosedPattern : Tree → Type 0
IsClosedPattern p = Fits pat [] p ⊎ Fits name_pat [] p

-- a ground value or a closed form, compared with its target and known as that wants it
abbrev pub IsCompared : Tree → Type 0
IsCompared (node (bool x) ts) = Ready term (only (node (bool x) ts))
IsCompared (node (int x) ts) = Ready term (only (node (int x) ts))
IsCompared (node (str x) ts) = Ready term (only (node (str x) ts))
IsCompared (node (uri x) ts) = Ready term (only (node (uri x) ts))
IsCompared (node (bytes x) ts) = Ready term (only (node (bytes x) ts))
IsCompared (node (receive k) ts) = Ready term (only (node (receive k) ts))
IsCompared (node (new os) ts) = Ready term (only (node (new os) ts))
IsCompared (node match ts) = Ready term (only (node match ts))
IsCompared _ = ⊥
