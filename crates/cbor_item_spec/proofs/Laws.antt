-- The statements of specs/Laws.antt, each from its law. Assumes nothing.
use Rattle.cbor_item_spec.specs.Laws.{HeadsEnd, ContentsEnd, SpansEnd, LengthsByFirst, CharFits, CharStops, CharSteps, LowFirst}
use Rattle.cbor_item_spec.proofs.EndLaws as ends
use Rattle.cbor_item_spec.proofs.Utf8Laws as utf8

-- ---- where heads and strings end

pub heads_end : HeadsEnd
heads_end = ends.heads_end

pub contents_end : ContentsEnd
contents_end = ends.contents_end

pub spans_end : SpansEnd
spans_end = ends.spans_end

-- ---- characters

pub lengths_by_first : LengthsByFirst
lengths_by_first a b c d =
    record {
      below_80 = utf8.length1 a b c d;
      below_C2 = utf8.length0 a b c d;
      below_E0 = utf8.length2 a b c d;
      below_F0 = utf8.length3 a b c d;
      below_F5 = utf8.length4 a b c d;
      above_F4 = utf8.length5 a b c d;
    }

pub char_fits : CharFits
char_fits = utf8.char_fits

pub char_stops : CharStops
char_stops = utf8.utf8_stop

pub char_steps : CharSteps
char_steps = utf8.utf8_step

pub low_first : LowFirst
low_first = utf8.low_first
