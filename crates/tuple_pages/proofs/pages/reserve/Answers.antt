use Rattle.std.proofs.Common.{arith}
use Rattle.tuple_pages.proofs.PageLemmas.{free_fewer, places-length, spare_room}
use Rattle.tuple_pages.proofs.pages.reserve.Goals as goal

pub overflow_sub-more : goal.overflow_sub-more
overflow_sub-more c =
    omega (
      arith,
      c.len.ensures,
      free_fewer c.args.pages.now.items c.args.len c.args.free.now c.requires,
    )

pub overflow_add-more : goal.overflow_add-more
overflow_add-more c =
    omega (
      arith,
      c.requires.holds.room,
      places-length c.args.pages.now.items c.args.len,
      c.args.free.now.data.small,
    )

pub returns-in_err-reserve-clause-succeeds : goal.returns-in_err-reserve-clause-succeeds
returns-in_err-reserve-clause-succeeds c spare =
    absurd
    (omega (
      arith,
      c.len.ensures,
      free_fewer c.args.pages.now.items c.args.len c.args.free.now c.requires,
      spare_room c.args.pages.now.items c.args.len c.args.free.now spare,
      c.in_err-reserve.ensures.full,
    ))
