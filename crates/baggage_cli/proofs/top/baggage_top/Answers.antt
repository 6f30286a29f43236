use Rattle.baggage_cli.specs.Scene.{change, scene_of}
use Rattle.baggage_cli.proofs.Calls.{files_kept, counts_kept, steady_call, library_steady_call, source_steady_call, unread_call, quiet_call, sink_call, words_call, unasked_call, unasked_part, untouched_call}
use Rattle.baggage_cli.proofs.Facts.{trim_appends, merge_appends, carry_appends, collect_appends, check_appends, table_appends, decode_appends, run_appends, run_table_appends, run_json_appends, load_appends, evolve_appends, why_appends, verify_appends, has_asked, ended_source, left_told, fault_told, refusal_told, input_told, bad_told, failed_told, memory_told, completes, part_told, unfetched_files, unread_input}
use Rattle.baggage_cli.proofs.top.baggage_top.Goals as goal

pub returns-clause-trim : goal.returns-clause-trim
returns-clause-trim g c = λ budget input is told done. trim_appends budget input _ c.answer_words.result (rw is at c.answer_words.ensures) told done

pub returns-clause-merge : goal.returns-clause-merge
returns-clause-merge g c = λ input is told done. merge_appends input _ c.answer_words.result (rw is at c.answer_words.ensures) told done

pub returns-clause-carry : goal.returns-clause-carry
returns-clause-carry g c = λ width input is told done. carry_appends width input _ c.answer_words.result (rw is at c.answer_words.ensures) told done

pub returns-clause-collect : goal.returns-clause-collect
returns-clause-collect g c = λ input is told done. collect_appends input _ c.answer_words.result (rw is at c.answer_words.ensures) told done

pub returns-clause-check : goal.returns-clause-check
returns-clause-check g c =
    let scene = scene_of
    (change g.L.Library.files g.L.Library.faults c.args.library.now c.answer_words.new.library)
    (change g.L.Library.asked g.L.Library.faults c.args.library.now c.answer_words.new.library)
    (change g.S.Source.left g.S.Source.faults c.args.source.now c.answer_words.new.source)
    (change g.K.Sink.written g.K.Sink.faults c.args.out.now c.answer_words.new.out)
    (change g.E.Sink.written g.E.Sink.faults c.args.errs.now c.answer_words.new.errs) in
    λ file bag held is told done. check_appends file bag held scene c.answer_words.result (rw is at c.answer_words.ensures) told done

pub returns-clause-table : goal.returns-clause-table
returns-clause-table g c =
    let scene = scene_of
    (change g.L.Library.files g.L.Library.faults c.args.library.now c.answer_words.new.library)
    (change g.L.Library.asked g.L.Library.faults c.args.library.now c.answer_words.new.library)
    (change g.S.Source.left g.S.Source.faults c.args.source.now c.answer_words.new.source)
    (change g.K.Sink.written g.K.Sink.faults c.args.out.now c.answer_words.new.out)
    (change g.E.Sink.written g.E.Sink.faults c.args.errs.now c.answer_words.new.errs) in
    λ file bag held is told done. table_appends file bag held scene c.answer_words.result (rw is at c.answer_words.ensures) told done

pub returns-clause-decode : goal.returns-clause-decode
returns-clause-decode g c =
    let scene = scene_of
    (change g.L.Library.files g.L.Library.faults c.args.library.now c.answer_words.new.library)
    (change g.L.Library.asked g.L.Library.faults c.args.library.now c.answer_words.new.library)
    (change g.S.Source.left g.S.Source.faults c.args.source.now c.answer_words.new.source)
    (change g.K.Sink.written g.K.Sink.faults c.args.out.now c.answer_words.new.out)
    (change g.E.Sink.written g.E.Sink.faults c.args.errs.now c.answer_words.new.errs) in
    λ file bag held input is told content done. decode_appends file bag held input scene c.answer_words.result (rw is at c.answer_words.ensures) told content done

pub returns-clause-run : goal.returns-clause-run
returns-clause-run g c =
    let scene = scene_of
    (change g.L.Library.files g.L.Library.faults c.args.library.now c.answer_words.new.library)
    (change g.L.Library.asked g.L.Library.faults c.args.library.now c.answer_words.new.library)
    (change g.S.Source.left g.S.Source.faults c.args.source.now c.answer_words.new.source)
    (change g.K.Sink.written g.K.Sink.faults c.args.out.now c.answer_words.new.out)
    (change g.E.Sink.written g.E.Sink.faults c.args.errs.now c.answer_words.new.errs) in
    λ file bag held input is told content done. run_appends c.tell_laws.ensures file bag held input scene c.answer_words.result (rw is at c.answer_words.ensures) told content done

pub returns-clause-runtable : goal.returns-clause-runtable
returns-clause-runtable g c =
    let scene = scene_of
    (change g.L.Library.files g.L.Library.faults c.args.library.now c.answer_words.new.library)
    (change g.L.Library.asked g.L.Library.faults c.args.library.now c.answer_words.new.library)
    (change g.S.Source.left g.S.Source.faults c.args.source.now c.answer_words.new.source)
    (change g.K.Sink.written g.K.Sink.faults c.args.out.now c.answer_words.new.out)
    (change g.E.Sink.written g.E.Sink.faults c.args.errs.now c.answer_words.new.errs) in
    λ file held input is told content done. run_table_appends c.tell_laws.ensures file held input scene c.answer_words.result (rw is at c.answer_words.ensures) told content done

pub returns-clause-runjson : goal.returns-clause-runjson
returns-clause-runjson g c =
    let scene = scene_of
    (change g.L.Library.files g.L.Library.faults c.args.library.now c.answer_words.new.library)
    (change g.L.Library.asked g.L.Library.faults c.args.library.now c.answer_words.new.library)
    (change g.S.Source.left g.S.Source.faults c.args.source.now c.answer_words.new.source)
    (change g.K.Sink.written g.K.Sink.faults c.args.out.now c.answer_words.new.out)
    (change g.E.Sink.written g.E.Sink.faults c.args.errs.now c.answer_words.new.errs) in
    λ file bag held input is told content done. run_json_appends c.tell_laws.ensures file bag held input scene c.answer_words.result (rw is at c.answer_words.ensures) told content done

pub returns-clause-load : goal.returns-clause-load
returns-clause-load g c =
    let scene = scene_of
    (change g.L.Library.files g.L.Library.faults c.args.library.now c.answer_words.new.library)
    (change g.L.Library.asked g.L.Library.faults c.args.library.now c.answer_words.new.library)
    (change g.S.Source.left g.S.Source.faults c.args.source.now c.answer_words.new.source)
    (change g.K.Sink.written g.K.Sink.faults c.args.out.now c.answer_words.new.out)
    (change g.E.Sink.written g.E.Sink.faults c.args.errs.now c.answer_words.new.errs) in
    λ rounds is done. load_appends c.tell_laws.ensures rounds scene c.answer_words.result (rw is at c.answer_words.ensures) done

pub returns-clause-evolve : goal.returns-clause-evolve
returns-clause-evolve g c =
    let scene = scene_of
    (change g.L.Library.files g.L.Library.faults c.args.library.now c.answer_words.new.library)
    (change g.L.Library.asked g.L.Library.faults c.args.library.now c.answer_words.new.library)
    (change g.S.Source.left g.S.Source.faults c.args.source.now c.answer_words.new.source)
    (change g.K.Sink.written g.K.Sink.faults c.args.out.now c.answer_words.new.out)
    (change g.E.Sink.written g.E.Sink.faults c.args.errs.now c.answer_words.new.errs) in
    λ old new bag held is told done. evolve_appends c.tell_laws.ensures old new bag held scene c.answer_words.result (rw is at c.answer_words.ensures) told done

pub returns-clause-why : goal.returns-clause-why
returns-clause-why g c =
    let scene = scene_of
    (change g.L.Library.files g.L.Library.faults c.args.library.now c.answer_words.new.library)
    (change g.L.Library.asked g.L.Library.faults c.args.library.now c.answer_words.new.library)
    (change g.S.Source.left g.S.Source.faults c.args.source.now c.answer_words.new.source)
    (change g.K.Sink.written g.K.Sink.faults c.args.out.now c.answer_words.new.out)
    (change g.E.Sink.written g.E.Sink.faults c.args.errs.now c.answer_words.new.errs) in
    λ file bag path step held input is told content done. why_appends file bag path step held input scene c.answer_words.result (rw is at c.answer_words.ensures) told content done

pub returns-clause-verify : goal.returns-clause-verify
returns-clause-verify g c =
    let scene = scene_of
    (change g.L.Library.files g.L.Library.faults c.args.library.now c.answer_words.new.library)
    (change g.L.Library.asked g.L.Library.faults c.args.library.now c.answer_words.new.library)
    (change g.S.Source.left g.S.Source.faults c.args.source.now c.answer_words.new.source)
    (change g.K.Sink.written g.K.Sink.faults c.args.out.now c.answer_words.new.out)
    (change g.E.Sink.written g.E.Sink.faults c.args.errs.now c.answer_words.new.errs) in
    λ file bag name held input is told content done. verify_appends c.tell_laws.ensures file bag name held input scene c.answer_words.result (rw is at c.answer_words.ensures) told content done

pub returns-clause-fetched : goal.returns-clause-fetched
returns-clause-fetched g c =
    let scene = scene_of
    (change g.L.Library.files g.L.Library.faults c.args.library.now c.answer_words.new.library)
    (change g.L.Library.asked g.L.Library.faults c.args.library.now c.answer_words.new.library)
    (change g.S.Source.left g.S.Source.faults c.args.source.now c.answer_words.new.source)
    (change g.K.Sink.written g.K.Sink.faults c.args.out.now c.answer_words.new.out)
    (change g.E.Sink.written g.E.Sink.faults c.args.errs.now c.answer_words.new.errs) in
    λ task held is fetches told few. has_asked task held scene c.answer_words.result (rw is at c.answer_words.ensures) fetches told few

pub returns-clause-same : goal.returns-clause-same
returns-clause-same g c = files_kept _ _ c.answer_words.result c.answer_words.ensures

pub returns-clause-library_counts : goal.returns-clause-library_counts
returns-clause-library_counts g c = (counts_kept _ _ c.answer_words.result c.answer_words.ensures).library

pub returns-clause-source_counts : goal.returns-clause-source_counts
returns-clause-source_counts g c = (counts_kept _ _ c.answer_words.result c.answer_words.ensures).source

pub returns-clause-out_counts : goal.returns-clause-out_counts
returns-clause-out_counts g c = (counts_kept _ _ c.answer_words.result c.answer_words.ensures).out

pub returns-clause-errs_counts : goal.returns-clause-errs_counts
returns-clause-errs_counts g c = (counts_kept _ _ c.answer_words.result c.answer_words.ensures).errs

pub returns-clause-quiet : goal.returns-clause-quiet
returns-clause-quiet g c = λ not_zero not_five. quiet_call _ _ c.answer_words.result c.answer_words.ensures not_zero not_five

pub returns-clause-ended : goal.returns-clause-ended
returns-clause-ended g c = λ task is reads done. ended_source task _ c.answer_words.result (rw is at c.answer_words.ensures) reads done

pub returns-clause-left : goal.returns-clause-left
returns-clause-left g c = λ task input is reads told ended. left_told task input _ c.answer_words.result (rw is at c.answer_words.ensures) reads told ended

pub returns-clause-library_steady : goal.returns-clause-library_steady
returns-clause-library_steady g c = λ low. library_steady_call _ _ c.answer_words.result c.answer_words.ensures low

pub returns-clause-unread : goal.returns-clause-unread
returns-clause-unread g c = λ one. (unread_call _ _ c.answer_words.result c.answer_words.ensures one).0

pub returns-clause-source_steady : goal.returns-clause-source_steady
returns-clause-source_steady g c = λ low. source_steady_call _ _ c.answer_words.result c.answer_words.ensures low

pub returns-clause-out_steady : goal.returns-clause-out_steady
returns-clause-out_steady g c = λ done. (steady_call _ _ c.answer_words.result c.answer_words.ensures done).0

pub returns-clause-errs_steady : goal.returns-clause-errs_steady
returns-clause-errs_steady g c = λ done. (steady_call _ _ c.answer_words.result c.answer_words.ensures done).1.1

pub returns-clause-errs : goal.returns-clause-errs
returns-clause-errs g c = λ done. (steady_call _ _ c.answer_words.result c.answer_words.ensures done).1.0

pub returns-clause-definition : goal.returns-clause-definition
returns-clause-definition g c = λ task held is told one. fault_told task held _ c.answer_words.result (rw is at c.answer_words.ensures) told one

pub returns-clause-fault : goal.returns-clause-fault
returns-clause-fault g c =
    let scene = scene_of
    (change g.L.Library.files g.L.Library.faults c.args.library.now c.answer_words.new.library)
    (change g.L.Library.asked g.L.Library.faults c.args.library.now c.answer_words.new.library)
    (change g.S.Source.left g.S.Source.faults c.args.source.now c.answer_words.new.source)
    (change g.K.Sink.written g.K.Sink.faults c.args.out.now c.answer_words.new.out)
    (change g.E.Sink.written g.E.Sink.faults c.args.errs.now c.answer_words.new.errs) in
    λ task held refusal is told bad. refusal_told c.tell_laws.ensures task held refusal scene c.answer_words.result (rw is at c.answer_words.ensures) told bad

pub returns-clause-input : goal.returns-clause-input
returns-clause-input g c = λ task input is tells told ended. input_told task input _ c.answer_words.result (rw is at c.answer_words.ensures) tells told ended

pub returns-clause-bad_line : goal.returns-clause-bad_line
returns-clause-bad_line g c =
    let scene = scene_of
    (change g.L.Library.files g.L.Library.faults c.args.library.now c.answer_words.new.library)
    (change g.L.Library.asked g.L.Library.faults c.args.library.now c.answer_words.new.library)
    (change g.S.Source.left g.S.Source.faults c.args.source.now c.answer_words.new.source)
    (change g.K.Sink.written g.K.Sink.faults c.args.out.now c.answer_words.new.out)
    (change g.E.Sink.written g.E.Sink.faults c.args.errs.now c.answer_words.new.errs) in
    λ task input number fault is told bad. bad_told c.tell_laws.ensures task input number fault scene c.answer_words.result (rw is at c.answer_words.ensures) told bad

pub returns-clause-failed : goal.returns-clause-failed
returns-clause-failed g c = λ task is four. failed_told task _ c.answer_words.result (rw is at c.answer_words.ensures) four

pub returns-clause-sink_failed : goal.returns-clause-sink_failed
returns-clause-sink_failed g c = λ five. sink_call _ _ c.answer_words.result c.answer_words.ensures five

pub returns-clause-memory : goal.returns-clause-memory
returns-clause-memory g c = λ task is six. memory_told task _ c.answer_words.result (rw is at c.answer_words.ensures) six

pub returns-clause-words : goal.returns-clause-words
returns-clause-words g c = λ seven. words_call _ _ c.answer_words.result c.answer_words.ensures seven

pub returns-clause-unasked : goal.returns-clause-unasked
returns-clause-unasked g c = λ is. unasked_call _ c.answer_words.result (rw is at c.answer_words.ensures)

pub returns-clause-unfetched : goal.returns-clause-unfetched
returns-clause-unfetched g c = λ task is none.
    let (library, requests) = unfetched_files task _ c.answer_words.result (rw is at c.answer_words.ensures) none in
    (requests.0, requests.1)

pub returns-clause-unread_source : goal.returns-clause-unread_source
returns-clause-unread_source g c = λ task is none. unread_input task _ c.answer_words.result (rw is at c.answer_words.ensures) none

pub returns-clause-untouched : goal.returns-clause-untouched
returns-clause-untouched g c = λ is.
    let (library, requests, source, out) = untouched_call _ c.answer_words.result (rw is at c.answer_words.ensures) in
    (requests.0, requests.1, source.0, source.1, out.0, out.1)

pub returns-clause-part : goal.returns-clause-part
returns-clause-part g c = λ task is five. part_told task _ c.answer_words.result (rw is at c.answer_words.ensures) five

pub returns-clause-complete : goal.returns-clause-complete
returns-clause-complete g c = λ task is tells sound sure. completes task _ c.answer_words.result (rw is at c.answer_words.ensures) tells sound sure

pub returns-clause-errs_part : goal.returns-clause-errs_part
returns-clause-errs_part g c = λ is five. unasked_part _ c.answer_words.result (rw is at c.answer_words.ensures) five
