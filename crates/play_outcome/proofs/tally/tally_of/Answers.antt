use Rattle.std.proofs.Common.{◌++◌, ◌∷◌, [], List, ap, sym, ◌∙◌, append_assoc}
use Rattle.play_hub.specs.declared.entry.PlayEntry.{PlayEntry}
use Rattle.play_outcome.proofs.Tallying.{few-so-far}
use Rattle.play_outcome.proofs.tally.tally_of.Goals as goal

pub add_entry-requires : goal.add_entry-requires
add_entry-requires c =
    let i = c.loop-entry.invariant.so_far in
    record { few = few-so-far c.args.fault i.0 c.loop-entry.entry-iterator.rest.items c.args.entries.items c.loop-entry.tally i.1 i.2 c.requires.few }

pub loop-entry-preserved : goal.loop-entry-preserved
loop-entry-preserved c =
    let i = c.loop-entry.invariant.so_far in
    let s = c.in-Some.ensures.steps in
    let rest = c.next.new.self.rest.items in
    record { so_far = (i.0 ++ c.in-Some.entry ∷ [], append_assoc i.0 (c.in-Some.entry ∷ []) rest ∙ ap (λ (l : List PlayEntry). i.0 ++ l) (sym s.0) ∙ i.1, c.in_ok-add_entry.ensures c.args.fault i.0 i.2) }
