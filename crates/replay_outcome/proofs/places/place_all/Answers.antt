use Rattle.std.proofs.Common.{rules, ◌≡◌, ◌++◌, List, [], length, map, ap, sym, subst, ◌∙◌, append_assoc, None}
use Rattle.std.specs.Prelude.{Option}
use Rattle.std.proofs.lemmas.List.{length-replicate}
use Rattle.hub_scenes.specs.Entries.{did_by, did_in}
use Rattle.replay_hub.specs.declared.deed.Entry.{Entry}
use Rattle.replay_hub.specs.Values.{deed_of, entry_of}
use Rattle.replay_outcome.specs.declared.places.Came.{Came}
use Rattle.replay_outcome.specs.Settling.{KeptFrom}
use Rattle.replay_outcome.proofs.Placing.{append-none, empty, none-kept}
use Rattle.replay_outcome.proofs.places.place_all.Goals as goal

pub loop-entry-init : goal.loop-entry-init
loop-entry-init g c =
    let whole : c.into_iter-entry-iterator.result.rest.items ≡ c.args.entries.items = search rules in
    record {
      many = ap (λ (os : List (Option Came)). length os) c.in_ok-places.ensures ∙ length-replicate c.args.count None;
      kept = λ row channel. ([], sym (ap (λ (es : List (Entry g.row.R.Denot g.row.C.Denot)). did_by (map (entry_of row channel) es)) whole), subst (λ os. KeptFrom 0 [] os) (sym c.in_ok-places.ensures) (none-kept 0 c.args.count));
    }

pub loop-entry-preserved : goal.loop-entry-preserved
loop-entry-preserved g c =
    let s = c.in-Some.ensures.steps in
    record {
      many = c.place_entry.ensures.count ∙ c.loop-entry.invariant.many;
      kept = λ row channel.
          let i = c.loop-entry.invariant.kept row channel in
          let one = did_in (deed_of row channel c.in-Some.entry.did) in
          let rest = did_by (map (entry_of row channel) c.next.new.self.rest.items) in (
            i.0 ++ one,
            i.1 ∙ ap (λ (es : List (Entry g.row.R.Denot g.row.C.Denot)). i.0 ++ did_by (map (entry_of row channel) es)) s.0 ∙ sym (append_assoc i.0 one rest),
            c.place_entry.ensures.kept row channel i.0 i.2,
          );
    }

pub returns-clause-kept : goal.returns-clause-kept
returns-clause-kept g c row channel =
    let s = c.in-None.ensures.steps in
    let rest = c.loop-entry.entry-iterator.rest in
    let i = c.loop-entry.invariant.kept row channel in
    let none = empty rest.items (sym rest.ok.0 ∙ s.0) in
    let same = i.1 ∙ ap (λ (es : List (Entry g.row.R.Denot g.row.C.Denot)). i.0 ++ did_by (map (entry_of row channel) es)) none ∙ append-none i.0 in
    subst (λ ds. KeptFrom 0 ds c.loop-entry.places.items) (sym same) i.2
