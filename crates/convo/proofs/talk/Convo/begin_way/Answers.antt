use Rattle.std.proofs.Common.{◌≡◌, ℕ, ◌+◌, ◌*◌, ap, length, arith}
use Rattle.flowdir.specs.Kept.{Kept as DirKept}
use Rattle.convo.specs.Directions.{DirAdds}
use Rattle.convo.specs.Left.{Adds}
use Rattle.convo.specs.declared.talk.Convo.{Convo}
use Rattle.convo.proofs.Lefts.{adds_back, adds_fore}
use Rattle.convo.proofs.Results.{if_ok_map}
use Rattle.convo.proofs.talk.Convo.begin_way.Goals as goal

more_fore : {C : Type 0} (m n : ℕ) (x : Convo C) (dir : DirKept C) → n ≡ m → DirAdds (2 * n) (14 * n + 3) x.fore.dir dir → Adds (2 * m) (112 * m + 24) x (record x { fore = record x.fore { dir = dir } })
more_fore m n x dir e a =
    let b = adds_fore (2 * n) (14 * n + 3) (112 * n + 24) x dir (omega arith) a in
    let p = b.grants_most in
    let q = b.work_most in
    record { grants_most = omega arith; work_most = omega arith }

more_back : {C : Type 0} (m n : ℕ) (x : Convo C) (dir : DirKept C) → n ≡ m → DirAdds (2 * n) (14 * n + 3) x.back.dir dir → Adds (2 * m) (112 * m + 24) x (record x { back = record x.back { dir = dir } })
more_back m n x dir e a =
    let b = adds_back (2 * n) (14 * n + 3) (112 * n + 24) x dir (omega arith) a in
    let p = b.grants_most in
    let q = b.work_most in
    record { grants_most = omega arith; work_most = omega arith }

pub returns-in-Fore-clause-left : goal.returns-in-Fore-clause-left
returns-in-Fore-clause-left g c = if_ok_map c.begin.result c.begin.ensures.left (λ step a.
    more_fore (length c.args.packet.now.payload) (length c.as_slice.result.now) c.args.self.now c.begin.new.dir (ap length c.as_slice.ensures) a)

pub returns-in-Back-clause-left : goal.returns-in-Back-clause-left
returns-in-Back-clause-left g c = if_ok_map c.begin-in-Back.result c.begin-in-Back.ensures.left (λ step a.
    more_back (length c.args.packet.now.payload) (length c.as_slice.result.now) c.args.self.now c.begin-in-Back.new.dir (ap length c.as_slice.ensures) a)
