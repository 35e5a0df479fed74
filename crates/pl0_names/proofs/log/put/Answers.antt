use Rattle.std.proofs.lemmas.Map.Text.{hash_map_updates_str}
use Rattle.pl0_names.proofs.Logs.{latest_first}
use Rattle.pl0_names.proofs.Tables.{put_indexed}
use Rattle.pl0_names.proofs.log.put.Goals as goal

pub returns-in-Ok-clause-indexed : goal.returns-in-Ok-clause-indexed
returns-in-Ok-clause-indexed g c =
    let items = c.args.log.now.items in
    let e = c.args.entry in
    put_indexed _ _ e _ _ c.requires.indexed c.requires.hidden (latest_first items e _ c.in_ok-push.ensures.items)
    (hash_map_updates_str e.word.now c.args.index.now c.insert.new.self _ c.in-Ok.ensures.updates)
