use Rattle.run_inspects.proofs.Exact.{says_missing, says_too_large, says_no_state, is_shown}
use Rattle.run_inspects.proofs.inspects.inspect.Goals as goal

pub returns : goal.returns
returns g c =
    let name = c.args.name.now in
    let told = g.S.Shelf.files c.args.shelf.now in
    let before = g.S.Shelf.fetch_faults c.args.shelf.now in
    let now = g.S.Shelf.fetch_faults c.show_state.new.shelf in
    let s = c.show_state.result in
    let d = c.show_state.ensures in
    record {
      ends = d.ends;
      is_exact = record {
        missing = λ l. says_missing told name before now s d.ends l;
        large = λ n files e bytes there m. says_too_large told name before now n files bytes e there s d.ends m;
        no_state = λ n files e bytes there few own f h. says_no_state told name before now n files bytes e there few own s d.ends f h;
        complete = λ n k files e bytes there few own st. is_shown told name before now n files bytes e there few own s _ _ d.ends d.write_fault k st;
      };
      files = d.files;
      keeps = d.keep_faults;
      stays = d.stays;
      all = d.all;
      part = d.part;
      write_fault = d.write_fault;
    }
