use Rattle.std.proofs.Common.{◌≡◌, ℕ, ◌+◌, ◌-◌, List, ◌++◌, codes, get_or, length, subst, take, arith}
use Rattle.std.proofs.lemmas.List.{take_all}
use Rattle.std.specs.List.{flat_map}
use borrow.Rule.Slice.PartMut.{put_mid}
use Rattle.text_model.specs.ScalarTexts.{escaped}
use Rattle.byte_forward.specs.Room.{HoldsBytes}
use Rattle.piece_calls.proofs.Rooms.{place_left, put_behind}
use Rattle.piece_calls.proofs.Quoted.{front_of, front_more, front_fits}
use Rattle.piece_calls.proofs.quoting.put_quoted.Goals as goal

pub put_escaped-at-requires : goal.put_escaped-at-requires
put_escaped-at-requires c =
    let bytes = c.args.bytes.now in
    let i = c.loop-byte.byte-index in
    let left = place_left (front_of bytes i) c.args.room.now c.loop-byte.room c.loop-byte.at c.loop-byte.invariant in
    omega (arith, left, front_fits bytes i c.loop-byte-test.true, c.requires)

pub loop-byte-preserved : goal.loop-byte-preserved
loop-byte-preserved c =
    let bytes = c.args.bytes.now in
    let i = c.loop-byte.byte-index in
    let old = c.args.room.now in
    let room = c.loop-byte.room in
    let at = c.loop-byte.at in
    let size = at + c.put_escaped-at.result in
    let new = put_mid at (length room - at) room c.put_escaped-at.new.room in
    let P : List ℕ → Type 0 = λ front. HoldsBytes front size old new in
    let put = put_behind (front_of bytes i) (escaped (get_or bytes i 0)) old room c.put_escaped-at.new.room at c.put_escaped-at.result c.loop-byte.invariant c.put_escaped-at.ensures in
    subst P (front_more bytes i c.loop-byte-test.true) put

pub returns : goal.returns
returns c =
    let bytes = c.args.bytes.now in
    let i = c.loop-byte.byte-index in
    let old = c.args.room.now in
    let room = c.loop-byte.room in
    let at = c.loop-byte.at in
    let size = at + c.put.result in
    let new = put_mid at (length room - at) room c.put.new.room in
    let P : List ℕ → Type 0 = λ all. HoldsBytes (codes "\"" ++ flat_map escaped all ++ codes "\"") size old new in
    let put = put_behind (front_of bytes i) (codes "\"") old room c.put.new.room at c.put.result c.loop-byte.invariant c.put.ensures in
    let all : take i bytes ≡ bytes = take_all i bytes c.loop-byte-test.false in
    subst P all put
