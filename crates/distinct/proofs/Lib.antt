mod ApartLaws
