-- `desk_report::pass_with` meets its contract. Assumes nothing.
use native.Mathlib.Omega.{arith}
use Rattle.desk_report.proofs.Pages.{count_fits, lines_readable, room_left, pass_there}
use Rattle.desk_report.proofs.pass_with.Goals as goal

pub shared_whole_as_front-put_rests : goal.shared_whole_as_front-put_rests
shared_whole_as_front-put_rests g c =
    let alone = c.new-recording.ensures in
    let fits = count_fits c.args.words.now c.requires.1 c.requires.2 c.new-recording.result alone.head alone.words c.scan-place.ensures in
    (fits, omega (arith, c.requires.2.most))

pub put_rests-requires : goal.put_rests-requires
put_rests-requires g c =
    let alone = c.new-recording.ensures in
    lines_readable c.args.words.now c.requires.1 c.requires.2 c.new-recording.result alone.head alone.words c.scan-place.ensures c.requires.0 c.begin_pass.ensures

pub put-requires : goal.put-requires
put-requires g c =
    let alone = c.new-recording.ensures in
    room_left c.args.words.now c.requires.1 c.requires.2 c.new-recording.result alone.head alone.words c.scan-place.ensures c.requires.0 c.begin_pass.ensures
    c.put_rests.ensures

pub returns : goal.returns
returns g c =
    let alone = c.new-recording.ensures in
    pass_there c.args.words.now c.requires.1 c.requires.2 c.new-recording.result alone.head alone.words c.scan-place.ensures c.requires.0 c.begin_pass.ensures
    c.put_rests.ensures c.put.ensures
