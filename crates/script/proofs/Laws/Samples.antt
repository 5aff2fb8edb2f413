-- The samples of the listing: each field by computation. Assumes nothing.
use mathlib.Core.Path.{refl}
use Rattle.script.specs.Texts.{is_digits, value_after, decimal_within, decimal}
use Rattle.script.specs.Lines.{before_space, after_space, is_dash, field_in, line_in}
use Rattle.script.specs.Reports.{outcome_text, later_text, stores_text}
use Rattle.script.specs.Feeding.{after_names, lines_after}
use Rattle.script.specs.Samples.{OutputSamples, InputSamples}

pub output_samples : OutputSamples
unfolding decimal_within decimal outcome_text later_text stores_text
output_samples =
    record {
      line_none = refl;
      line_placed = refl;
      line_two_digits = refl;
      line_waiting = refl;
      line_refused = refl;
      line_bad_number = refl;
      line_bad_size = refl;
      line_damaged = refl;
    }

pub input_samples : InputSamples
unfolding is_digits value_after before_space after_space is_dash field_in line_in after_names lines_after
input_samples =
    record {
      offer = refl;
      no_offer_lem = refl;
      leading_zeros = refl;
      nine_digits = refl;
      ten_digits = refl;
      ten_digits_offered = refl;
      two_spaces = refl;
      space_before = refl;
      space_after = refl;
      no_space = refl;
      no_number = refl;
      nothing_offered = refl;
      two_dashes = refl;
      letter = refl;
      return_after = refl;
      tab_between = refl;
      zero_byte = refl;
      empty = refl;
      lines = refl;
      names_alone = refl;
      empty_line = refl;
    }
