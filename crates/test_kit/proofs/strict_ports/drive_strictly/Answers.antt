use Rattle.test_kit.proofs.strict_ports.drive_strictly.Goals as goal

pub drive-requires : goal.drive-requires
drive-requires g c path i l o d owes inbox loader out orders kept =
    let owed = rw (c.requires.events, c.requires.loads, c.requires.out, c.requires.orders) at owes in
    (λ none. rw none at owed, λ file is. rw is at owed)
