use Rattle.std.proofs.Common.{◌≡◌, ◌∙◌, ◌+◌, ◌-◌, ap, arith, length}
use Rattle.std.proofs.lemmas.List.{length-append}
use Rattle.std.specs.Vec.{vec_capacity}
use Rattle.sig_core.specs.Redo.{size_of}
use Rattle.sig_core.specs.Redo.{bytes_of}
use Rattle.redo_log.specs.LogState.{room_of}
use Rattle.redo_log.proofs.log.LogJournal.append.Goals as goal

-- as many bytes as were kept free for the record are taken
pub returns-clause-room : goal.returns-clause-room
returns-clause-room c =
    let redo = c.args.redo.now in
    let items = c.self.inside.bytes.items in
    let len : length c.encode.new.out.items ≡ length items + length (bytes_of redo) =
    ap length c.in-Ok.ensures.appended ∙ length-append items (bytes_of redo) in
    let size : length (bytes_of redo) ≡ size_of redo = c.encode.ensures.len in
    let room : room_of (vec_capacity c.self.inside.bytes) (length items)
    (c.self.inside.flushed + (length items - c.self.inside.given)) c.self.inside.reserved
    ≡ c.args.self.now.room = ap (λ v. v.room) c.self.view_is in
    let reserved : c.self.inside.reserved ≡ c.args.self.now.log.reserved = ap (λ v. v.log.reserved) c.self.view_is in
    omega (arith, room, reserved, len, size, c.encode.ensures.capacity, c.size-size.ensures.size)
