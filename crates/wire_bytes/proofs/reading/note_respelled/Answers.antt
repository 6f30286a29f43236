use Rattle.std.proofs.Common.{◌++◌, [], ◌∷◌, ◌+◌, slice_range, ◌∙◌, ap}
use Rattle.wire_bytes.proofs.Codings.{skip_is, code_is, still_within, atom_is, left_is}
use Rattle.wire_bytes.proofs.reading.note_respelled.Goals as goal

pub respell-requires-clause-skip : goal.respell-requires-clause-skip
respell-requires-clause-skip c = skip_is c.args.scan.now.rest c.args.scan.now.rest c.args.skip c.args.len c.requires.short c.requires.within c.requires.framed

pub note-requires-clause-within : goal.note-requires-clause-within
note-requires-clause-within c = still_within c.args.scan.now.rest c.respell.new.self.rest c.args.skip c.args.len c.requires.short c.requires.within c.requires.framed c.respell.ensures.rest

pub note-requires-clause-framed : goal.note-requires-clause-framed
note-requires-clause-framed c = code_is c.args.scan.now.rest c.respell.new.self.rest c.args.skip c.args.len c.requires.short c.requires.within c.requires.framed c.respell.ensures.rest

pub returns-clause-atoms : goal.returns-clause-atoms
returns-clause-atoms c =
    let atom = atom_is c.args.scan.now.rest c.respell.new.self.rest c.args.skip c.args.len c.requires.short c.requires.within c.requires.framed c.respell.ensures.rest in
    c.in_ok-note.ensures.atoms ∙ ap (λ atoms. atoms ++ slice_range c.respell.new.self.rest c.args.skip (c.args.skip + c.args.len) ∷ []) c.respell.ensures.atoms
    ∙ ap (λ atom. c.args.scan.now.atoms ++ atom ∷ []) atom

pub returns-clause-rest : goal.returns-clause-rest
returns-clause-rest c = c.in_ok-note.ensures.rest ∙ left_is c.args.scan.now.rest c.respell.new.self.rest c.args.skip c.args.len c.requires.short c.requires.within c.requires.framed c.respell.ensures.rest
